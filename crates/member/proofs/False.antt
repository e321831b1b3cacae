-- What is not shown of a concept built of the kinds that can be shown fails in the world that is read off the conclusions.
use Prim.Native.Nat.{ℕ, ◌<◌}
use mathlib.Core.Path.{◌≡◌, refl, sym, ◌∙◌, subst}
use mathlib.Core.Bool.{Bool, true, ◌&&◌}
use Rattle.book.specs.Tree.{Concept, Concepts, SelfRestriction}
use Rattle.book.specs.Book.{Book}
use Rattle.book.specs.declared.role.Role.{Role}
use Rattle.rules.specs.Fact.{edge}
use Rattle.rules.specs.Rule.{Set, any}
use Rattle.rules.specs.Meaning.{conclusions}
use Rattle.rules.specs.World.{World, Thing, Leads, Of, OfAll, OfNone}
use Rattle.rules.proofs.Tests.{stable, and_intro, or_left, or_right, some_any}
use Rattle.rules.proofs.Inside.{ConceptIn, ConceptsIn, Inside}
use Rattle.rules.proofs.Complete.{canonical, thing_head, edge_own, ind_is, to_edge, leads_false, type_false, pair_false}
use Rattle.member.specs.Shown.{shown, shown_all, shown_some, in_one_class, Positive, positive_top, positive_atomic, positive_nominal, positive_self, positive_and, positive_or, positive_some, AllPositive, positive_none, positive_more}

module _ (B : Book) (inside : Inside B) where
  abbrev n : ℕ
  n = B.counts.individuals

  abbrev S : Set
  S = conclusions B

  abbrev W : World
  W = canonical B inside

  abbrev is : Concept → ℕ → Bool
  is = shown n S (in_one_class B)

  abbrev is_all : Concepts → ℕ → Bool
  is_all = shown_all n S (in_one_class B)

  abbrev is_some : Concepts → ℕ → Bool
  is_some = shown_some n S (in_one_class B)

  in_one : (i j : ℕ) → i < n → j < n → W.ind i ≡ W.ind j → in_one_class B i j ≡ true
  unfolding in_one_class
  in_one i j k l e = pair_false B inside i j k l e

  -- a thing to which a role leads an individual's thing is the thing of an individual
  found : (ρ : Role) (i y : ℕ) → ConceptIn B.counts (SelfRestriction ρ) → Thing W y → Leads W ρ (W.ind i) y → (y < n) × (W.ind y ≡ y)
  found ρ i y w t l =
      let k = (edge_own B inside ρ (W.ind i) y w (W.ind_thing i) t (to_edge B inside ρ (W.ind i) y l)).1 in
      (k, ind_is B inside y k ∙ thing_head B inside y t)

  mutual
    pub member_shown : (e : Concept) → Positive e → ConceptIn B.counts e → (i : ℕ) → i < n → Of W e (W.ind i) → is e i ≡ true
    member_shown e positive_top w i l o = refl
    member_shown e (positive_atomic c) w i l o = type_false B inside i c l w o
    member_shown e (positive_nominal b) w i l o = in_one i b l w o
    member_shown e (positive_self ρ) w i l o = leads_false B inside ρ i i w l l o
    member_shown e (positive_and {es = es} p) w i l o = all_shown es p w i l o
    member_shown e (positive_or {es = es} p) w i l o = stable (is_some es i) (λ out. o (none_shown es p w i l out))
    member_shown e (positive_some ρ {e = d} p) w i l o =
        stable (any n (λ j. S (edge ρ i j) && is d j)) (λ out. o (λ y t m q.
        let f = found ρ i y w.0 t m in
        out (some_any n (λ j. S (edge ρ i j) && is d j) y f.0
        (and_intro (S (edge ρ i y)) (is d y)
        (leads_false B inside ρ i y w.0 l f.0 (subst (λ (x : ℕ). Leads W ρ (W.ind i) x) (sym f.1) m))
        (member_shown d p w.1 y f.0 (subst (λ (x : ℕ). Of W d x) (sym f.1) q))))))

    all_shown : (es : Concepts) → AllPositive es → ConceptsIn B.counts es → (i : ℕ) → i < n → OfAll W es (W.ind i) → is_all es i ≡ true
    all_shown es positive_none w i l o = refl
    all_shown es (positive_more {e = e} {es = fs} p r) w i l o = and_intro (is e i) (is_all fs i) (member_shown e p w.0 i l o.0) (all_shown fs r w.1 i l o.1)

    none_shown : (es : Concepts) → AllPositive es → ConceptsIn B.counts es → (i : ℕ) → i < n → ¬ (is_some es i ≡ true) → OfNone W es (W.ind i)
    none_shown es positive_none w i l out = tt
    none_shown es (positive_more {e = e} {es = fs} p r) w i l out = (
      λ o. out (or_left (is e i) (is_some fs i) (member_shown e p w.0 i l o)),
      none_shown fs r w.1 i l (λ q. out (or_right (is e i) (is_some fs i) q)),
    )
