-- The theorems, over any make of term set. Assumes nothing.
use Rattle.std.proofs.Common.{◌≡◌, ℕ, Bool, true, false, List, [], ◌∷◌, ◌++◌, Some, None, Option, sym, refl, ◌∙◌, subst}
use Rattle.std.proofs.lemmas.Bool.{true≢false}
use Rattle.shelf.specs.declared.form.Form.{Form}
use Rattle.calculus.specs.Makes.{Makes, LawfulMakes}
use Rattle.calculus.specs.Meaning.{structure}
use Rattle.calculus.specs.Reached.{Reached}
use Rattle.calculus.specs.Rules.{Due, Stored, Missing, Closed}
use Rattle.calculus.specs.Search.{is_stored, first_missing}
use Rattle.calculus.specs.States.{State, added, with_axioms}
use Rattle.calculus.specs.Theorems.{Sound, Complete, LowestMissing}
use Rattle.calculus.specs.declared.state.Finding.{Finding}
use Rattle.calculus.specs.declared.state.Finding.TheVariants.{Fresh}
use Rattle.calculus.proofs.Completeness.{obeys_all}
use Rattle.calculus.proofs.Finds.{Finds}
use Rattle.calculus.proofs.Forest.{forest, root_point, root-walk, is_from, carries_at}
use Rattle.calculus.proofs.Invariants.{reached_regular}
use Rattle.calculus.proofs.Places.{none_some}
use Rattle.calculus.proofs.SearchLaws.{first_missing_finds, stored_decides}
use Rattle.calculus.proofs.SetFacts.{has_covered}
use Rattle.calculus.proofs.Soundness.{due_kept, fresh_kept, axiom_kept}

module _ {S : Type 0} (m : Makes S) (laws : LawfulMakes m) where
  pub sound_due : (s : State S) → Reached m s → (p : List ℕ) (r : Finding S) → Due m s p r → Sound m s → Sound m (added m s r)
  sound_due s reached p r due sound w = due_kept m laws (structure w) s (reached_regular m laws s reached) p r due (sound w)

  pub sound-fresh : (s : State S) → Reached m s → (t : S) → Sound m s → Sound m (added m s (Fresh t))
  sound-fresh s reached t sound w = fresh_kept m laws (structure w) s (reached_regular m laws s reached) t (sound w)

  pub sound_axiom : (s : State S) (x : Form S) → Sound m s → Sound m (with_axioms m s (s.axioms ++ (x ∷ [])))
  sound_axiom s x sound w = axiom_kept m laws (structure w) s x (sound w)

  pub sound : (s : State S) → Reached m s → Sound m s
  sound s (Reached.start n q a c d h k) = λ w models. record { held = λ i c e. absurd (none_some c e); void = λ i c e. absurd (none_some c e); met = λ j d c e. absurd (none_some d e) }
  sound s (Reached.taken t x r used room) = sound_axiom t x (sound t r)
  sound s (Reached.wanted t x r used room) = sound-fresh t r x (sound t r)
  sound s (Reached.worked t p f r due room) = sound_due t r p f due (sound t r)
  sound s (Reached.rested t b r) = λ w models. let right = sound t r w models in record { held = right.held; void = right.void; met = right.met }

  pub complete : (s : State S) → Reached m s → Closed m s → Complete m s
  complete s reached closed i c live =
      let regular = reached_regular m laws s reached in (
        forest m laws s i c live,
        record {
          obeys = obeys_all m laws s regular closed i c live;
          shows = λ k e there.
              let stands = root-walk m laws s k e there in
              let exact : (n : ℕ) → (forest m laws s i c live).carries n (k ∷ []) ≡ m.terms.has e.held n = λ n. carries_at m laws s (k ∷ []) (root_point m laws s k e) n stands in (
                k ∷ [],
                is_from m laws s (k ∷ []) (root_point m laws s k e) stands,
                λ n h. exact n ∙ has_covered m.terms laws.terms e.held e.set n (regular.own k e there.stands) h,
                exact,
              );
        },
      )

  module _ (s : State S) where
    stored_or_missing : (r : Finding S) → (Missing m s r → ⊥) → Stored m s r
    stored_or_missing r h = go (is_stored m s r) refl
      where
        go : (b : Bool) → is_stored m s r ≡ b → Stored m s r
        go true e = (stored_decides m laws s r).0 e
        go false e = absurd (h (λ k. true≢false (sym ((stored_decides m laws s r).1 k) ∙ e)))

    abbrev DueMissing : List ℕ → Finding S → Type 0
    DueMissing p r = Due m s p r × Missing m s r

    finds_at : (o : Option (Finding S)) → first_missing m s ≡ o → Finds o DueMissing
    finds_at o e = subst (λ (z : Option (Finding S)). Finds z DueMissing) e (first_missing_finds m laws s)

    pub none_closed : first_missing m s ≡ None → Closed m s
    none_closed e p r due = stored_or_missing r (λ miss. finds_at None e p r (due, miss))

    pub closed_none : Closed m s → first_missing m s ≡ None
    closed_none closed = go (first_missing m s) refl
      where
        go : (o : Option (Finding S)) → first_missing m s ≡ o → first_missing m s ≡ None
        go None e = e
        go (Some r) e = let (p, h, low) = finds_at (Some r) e in absurd (h.1 (closed p r h.0))

    pub some_lowest : (r : Finding S) → first_missing m s ≡ Some r → LowestMissing m s r
    some_lowest r e = let (p, h, low) = finds_at (Some r) e in (p, h.0, h.1, λ q z l due. stored_or_missing z (λ miss. low q z l (due, miss)))
