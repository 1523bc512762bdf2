-- Term sets and role sets keep the laws of sets. Assumes nothing.
use Rattle.std.specs.Prelude.{◌≡◌, ◌^◌, ◌<◌, refl}
use mathlib.Core.HLevel.{is_prop→PathP}
use Rattle.std.proofs.Math.Bridge.{le_prop}
use Rattle.std.proofs.Common.{mod-eq_of_lt}
use Rattle.std.proofs.lemmas.Nat.{or_lt}
use Rattle.numbers.specs.Bits.{single_small}
use Rattle.numbers.specs.Sets.{SetLaws}
use Rattle.numbers.specs.TermSets.{term_has, term_none, term_single, term_covers, term_joined}
use Rattle.numbers.specs.RoleSets.{role_has, role_none, role_single, role_covers, role_joined}
use Rattle.numbers.specs.declared.term_set.TermSet.{TermSet}
use Rattle.numbers.specs.declared.role_set.RoleSet.{RoleSet}
use Rattle.numbers.specs.Words.{word_laws}

-- a set is known by its word
pub same_terms : (a b : TermSet) → a.bits ≡ b.bits → a ≡ b
same_terms a b p = λ i. record { bits = p i; small = is_prop→PathP (λ j. p j < 2 ^ 64) (λ j. le_prop) a.small b.small i }

pub same_roles : (a b : RoleSet) → a.bits ≡ b.bits → a ≡ b
same_roles a b p = λ i. record { bits = p i; small = is_prop→PathP (λ j. p j < 2 ^ 32) (λ j. le_prop) a.small b.small i }

pub term_laws : SetLaws 64 term_has term_none term_single term_covers term_joined
term_laws = word_laws 64 (λ (s : TermSet). s.bits) (λ s. s.small) same_terms term_none term_single term_joined refl
    (λ k. mod-eq_of_lt (single_small 64 k)) (λ a b. mod-eq_of_lt (or_lt 64 a.bits b.bits a.small b.small))

pub role_laws : SetLaws 32 role_has role_none role_single role_covers role_joined
role_laws = word_laws 32 (λ (s : RoleSet). s.bits) (λ s. s.small) same_roles role_none role_single role_joined refl
    (λ k. mod-eq_of_lt (single_small 32 k)) (λ a b. mod-eq_of_lt (or_lt 32 a.bits b.bits a.small b.small))
