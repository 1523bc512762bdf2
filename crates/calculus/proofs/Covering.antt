-- Covering of needs is reflexive and transitive. Assumes nothing.
use Rattle.std.proofs.Common.{◌≡◌, true, ◌&&◌, eqb, refl, ◌∙◌}
use Rattle.std.proofs.lemmas.Bool.{and_parts, and_from, eqb-true, eq-eqb}
use Rattle.calculus.specs.Makes.{Makes, LawfulMakes}
use Rattle.calculus.specs.States.{need_covers}
use Rattle.calculus.specs.declared.state.Need.{Need}

module _ {S : Type 0} (m : Makes S) (laws : LawfulMakes m) where
  -- what it is to cover
  pub record Covers (d f : Need S) : Type 0 where
    pub owner : d.context ≡ f.context
    pub roles : m.roles.covers d.roles f.roles ≡ true
    pub terms : m.terms.covers d.terms f.terms ≡ true

  pub covers_from : (d f : Need S) → Covers d f → need_covers m d f ≡ true
  covers_from d f h = and_from (eqb d.context f.context) (m.roles.covers d.roles f.roles && m.terms.covers d.terms f.terms)
      (eq-eqb d.context f.context h.owner) (and_from (m.roles.covers d.roles f.roles) (m.terms.covers d.terms f.terms) h.roles h.terms)

  pub covers_to : (d f : Need S) → need_covers m d f ≡ true → Covers d f
  covers_to d f h =
      let first = and_parts (eqb d.context f.context) (m.roles.covers d.roles f.roles && m.terms.covers d.terms f.terms) h in
      let rest = and_parts (m.roles.covers d.roles f.roles) (m.terms.covers d.terms f.terms) first.1 in
      record { owner = eqb-true d.context f.context first.0; roles = rest.0; terms = rest.1 }

  pub covers_refl : (d : Need S) → need_covers m d d ≡ true
  covers_refl d = covers_from d d (record { owner = refl; roles = laws.roles.reflexive d.roles; terms = laws.terms.reflexive d.terms })

  pub covers_trans : (d f g : Need S) → need_covers m d f ≡ true → need_covers m f g ≡ true → need_covers m d g ≡ true
  covers_trans d f g p q =
      let a = covers_to d f p in
      let b = covers_to f g q in
      covers_from d g (record {
        owner = a.owner ∙ b.owner;
        roles = laws.roles.transitive d.roles f.roles g.roles a.roles b.roles;
        terms = laws.terms.transitive d.terms f.terms g.terms a.terms b.terms;
      })
