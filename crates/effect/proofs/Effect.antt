-- What a further statement would do: the present run stands as it is, what the difference lists is what is new and is true in every world that
-- fits the copy, and a conclusion of the book stays one of the copy.
use Prim.Native.Nat.{ℕ, ◌<◌}
use native.Mathlib.Omega.{arith}
use mathlib.Core.Path.{◌≡◌, refl, ap, sym, ◌∙◌, subst}
use mathlib.Core.Bool.{Bool, true, false}
use mathlib.Core.List.{List}
use lib.Dec.{ltb}
use Rattle.book.specs.Read.{pick, Read, value, refusal}
use Rattle.book.specs.Book.{Book, Decoded, refused, accepted, decode}
use Rattle.book.specs.declared.role.Role.TheVariants.{Named}
use Rattle.book.specs.declared.statement.Statement.{Statement}
use Rattle.rules.specs.Fact.{edge, type}
use Rattle.rules.specs.Meaning.{conclusions}
use Rattle.rules.specs.Same.{same_pair}
use Rattle.rules.specs.Ends.{End, Refused, Spent, Clash, Finished, Outcome, untouched, outcome, Lists2, Lists3}
use Rattle.rules.specs.World.{World, leads, Fits, TypeTrue, EdgeTrue, PairTrue}
use Rattle.rules.specs.Demand.{ListedTrue, NoWorld, Demand}
use Rattle.rules.specs.Applied.{In}
use Rattle.rules.proofs.Inside.{Inside, accepted_inside}
use Rattle.rules.proofs.Sound.{to_class, to_leads, conclusions_true}
use Rattle.rules.proofs.SoundClash.{pair_true}
use Rattle.rules.proofs.Demand.{demand}
use Rattle.effect.specs.Copy.{copied, one_record, larger, entered, with_record}
use Rattle.effect.specs.Effect.{had, news, difference, alone, further, Effect, on_finished, by_itself, followed, effect}
use Rattle.effect.proofs.Kept.{conclusions_more, pairs_more}
use Rattle.effect.proofs.Difference.{new_types, new_edges, new_pairs, type_listed, edge_listed, pair_listed, difference_lists, difference_clash}
use Rattle.effect.proofs.Copied.{copied_is}

-- the lists for the difference are those of what the book C has and B has not
pub record Exact (B C : Book) (o : Outcome) (t e p : ℕ) : Type 0 where
  pub types : (i c : ℕ) → Lists2 o.types t i c → (conclusions C (type i c) ≡ true) × (conclusions B (type i c) ≡ false)
  pub edges : (r a b : ℕ) → Lists3 o.edges e r a b → (conclusions C (edge (Named r) a b) ≡ true) × (conclusions B (edge (Named r) a b) ≡ false)
  pub pairs : (i j : ℕ) → Lists2 o.pairs p i j → (same_pair (conclusions C) i j ≡ true) × (same_pair (conclusions B) i j ≡ false)
  pub all_types : (i c : ℕ) → i < C.counts.individuals → c < C.counts.classes → conclusions C (type i c) ≡ true → conclusions B (type i c) ≡ false → Lists2 o.types t i c
  pub all_edges : (r a b : ℕ) → r < C.counts.roles → a < C.counts.individuals → b < C.counts.individuals → conclusions C (edge (Named r) a b) ≡ true → conclusions B (edge (Named r) a b) ≡ false → Lists3 o.edges e r a b
  pub all_pairs : (i j : ℕ) → i < C.counts.individuals → j < C.counts.individuals → same_pair (conclusions C) i j ≡ true → same_pair (conclusions B) i j ≡ false → Lists2 o.pairs p i j

module _ (s x : List ℕ) (budget : ℕ) (ts es ps us fs qs : List ℕ) where
  abbrev now : Outcome
  now = outcome s budget ts es ps

  abbrev then : Outcome
  then = difference (decode (copied s x)) (had (decode s)) budget us fs qs

  abbrev whole : Effect
  whole = effect s x budget ts es ps us fs qs

  -- what it comes to by the present end
  abbrev by : End → Effect
  by z = on_finished z (by_itself now us fs qs) (followed now then)

  -- the present lists end as after the present run alone
  pub present_is : whole.present ≡ now
  unfolding effect
  present_is = go now.end
    where
      go : (e : End) → (by e).present ≡ now
      go (Refused n) = refl
      go Spent = refl
      go (Clash t e) = refl
      go (Finished t e p) = refl

  -- where the present run doesn't finish, its own end stands alone, and the lists for the difference keep their values
  pub effect_alone : ((t e p : ℕ) → now.end ≡ Finished t e p → ⊥) → ◌≡◌ {A = Effect} whole (record { present = now; copy = alone; types = us; edges = fs; pairs = qs })
  unfolding effect
  effect_alone f = go now.end refl
    where
      go : (e : End) → now.end ≡ e → by e ≡ by_itself now us fs qs
      go (Refused n) q = refl
      go Spent q = refl
      go (Clash t e) q = refl
      go (Finished t e p) q = absurd (f t e p q)

  -- where it does, the end or number of the copy's run is given beside its own, and the lists for the difference are as that run leaves them
  pub effect_followed : (t e p : ℕ) → now.end ≡ Finished t e p → ◌≡◌ {A = Effect} whole (record { present = now; copy = further then.end; types = then.types; edges = then.edges; pairs = then.pairs })
  unfolding effect
  effect_followed t e p q = ap by q

  module _ (B : Book) (book : decode s ≡ accepted B) where
    -- DEMAND 3 of the present lists
    pub present_demand : Demand B whole.present
    present_demand = subst (Demand B) (sym present_is) (demand s budget ts es ps B book)

    -- the difference is that of the book with the statement, or of the record's refusal, to what the present run has
    pub then_is : then ≡ difference (with_record B x) (conclusions B) budget us fs qs
    then_is =
        ap (λ (d : Decoded). difference d (had (decode s)) budget us fs qs) (copied_is s x B book)
        ∙ ap (λ (d : Decoded). difference (with_record B x) (had d) budget us fs qs) book

    -- an accepted copy is the book with a statement behind its others
    pub copy_larger : (C : Book) → decode (copied s x) ≡ accepted C → (y : Statement) × (C ≡ larger B y)
    unfolding with_record
    copy_larger C copy = go (ltb B.counts.statements 4096) (one_record B.counts x 0) (sym (copied_is s x B book) ∙ copy)
      where
        go : (t : Bool) (r : Read Statement) → pick t (entered B r) (refused 6) ≡ accepted C → (y : Statement) × (C ≡ larger B y)
        go true (value y next) q = (y, sym (let z : larger B y ≡ C = cc in z))
        go true (refusal n) q = absurd (let o : ◌≡◌ {A = ℕ} 0 1 = cc in omega arith)
        go false r q = absurd (let o : ◌≡◌ {A = ℕ} 0 1 = cc in omega arith)

    module _ (C : Book) (copy : decode (copied s x) ≡ accepted C) where
      within : Inside C
      within = accepted_inside (copied s x) C copy

      -- THE COPY KEEPS every conclusion and every same pair of the book: there is no difference but what it adds
      pub copy_keeps : In (conclusions B) (conclusions C)
      copy_keeps =
          let k = copy_larger C copy in
          subst (λ (Z : Book). In (conclusions B) (conclusions Z)) (sym k.1) (conclusions_more B k.0 (accepted_inside s B book) (subst Inside k.1 within))

      pub copy_keeps_pairs : (i j : ℕ) → same_pair (conclusions B) i j ≡ true → same_pair (conclusions C) i j ≡ true
      copy_keeps_pairs i j =
          let k = copy_larger C copy in
          subst (λ (Z : Book). same_pair (conclusions B) i j ≡ true → same_pair (conclusions Z) i j ≡ true) (sym k.1) (pairs_more B k.0 (accepted_inside s B book) (subst Inside k.1 within) i j)

      -- where the copy clashes, no world fits it
      pub copy_clash : (t e : ℕ) → whole.copy ≡ further (Clash t e) → NoWorld C
      unfolding effect
      copy_clash t e q = (demand (copied s x) budget us fs qs C copy).clash_none (t, e, difference_clash (had (decode s)) budget us fs qs (decode (copied s x)) t e (go now.end q))
        where
          go : (z : End) → (by z).copy ≡ further (Clash t e) → then.end ≡ Clash t e
          go (Refused n) r = absurd (let o : ◌≡◌ {A = ℕ} 0 1 = cc in omega arith)
          go Spent r = absurd (let o : ◌≡◌ {A = ℕ} 0 1 = cc in omega arith)
          go (Clash a b) r = absurd (let o : ◌≡◌ {A = ℕ} 0 1 = cc in omega arith)
          go (Finished a b c) r = let o : then.end ≡ Clash t e = cc in o

      module _ (t e p : ℕ) (ended : whole.copy ≡ further (Finished t e p)) where
        -- the lists for the difference, with the end of the copy
        abbrev pub added : Outcome
        added = untouched whole.types whole.edges whole.pairs (Finished t e p)

        taken : (then.end ≡ Finished t e p) × (added ≡ untouched then.types then.edges then.pairs (Finished t e p))
        unfolding effect
        taken = go now.end ended
          where
            go : (z : End) → (by z).copy ≡ further (Finished t e p) → (then.end ≡ Finished t e p) × (untouched (by z).types (by z).edges (by z).pairs (Finished t e p) ≡ untouched then.types then.edges then.pairs (Finished t e p))
            go (Refused n) r = absurd (let o : ◌≡◌ {A = ℕ} 0 1 = cc in omega arith)
            go Spent r = absurd (let o : ◌≡◌ {A = ℕ} 0 1 = cc in omega arith)
            go (Clash a b) r = absurd (let o : ◌≡◌ {A = ℕ} 0 1 = cc in omega arith)
            go (Finished a b c) r = (let o : then.end ≡ Finished t e p = cc in o, refl)

        is_news : added ≡ news us fs qs C (conclusions C) (conclusions B)
        is_news =
            let l = difference_lists (had (decode s)) budget us fs qs (decode (copied s x)) t e p taken.0 in
            let same : l.0 ≡ C = (let z : accepted l.0 ≡ accepted C = sym l.1 ∙ copy in cc) in
            taken.1
            ∙ (ap (untouched then.types then.edges then.pairs) (sym taken.0)
            ∙ (l.2
            ∙ (ap (λ (Z : Book). news us fs qs Z (conclusions Z) (had (decode s))) same
            ∙ ap (λ (d : Decoded). news us fs qs C (conclusions C) (had d)) book)))

        -- WHAT IS LISTED is what the copy's run has and the present run has not
        pub difference_exact : Exact B C added t e p
        difference_exact =
            record {
              types = new_types (conclusions B) budget us fs qs C (conclusions C) added is_news t e p refl _ (λ i c k l a b. (a, b));
              edges = new_edges (conclusions B) budget us fs qs C (conclusions C) added is_news t e p refl _ (λ r a b j k l u v. (u, v));
              pairs = new_pairs (conclusions B) budget us fs qs C (conclusions C) added is_news t e p refl _ (λ i j k l a b. (a, b));
              all_types = type_listed (conclusions B) budget us fs qs C (conclusions C) added is_news t e p refl;
              all_edges = edge_listed (conclusions B) budget us fs qs C (conclusions C) added is_news t e p refl;
              all_pairs = pair_listed (conclusions B) budget us fs qs C (conclusions C) added is_news t e p refl;
            }

        -- EACH LISTED DIFFERENCE is true in every world that fits the copy
        pub difference_true : (W : World) → Fits W C → ListedTrue W added t e p
        difference_true W fits =
            let sound = conclusions_true W C within fits in
            record {
              types = new_types (conclusions B) budget us fs qs C (conclusions C) added is_news t e p refl (TypeTrue W) (λ i c k l a b. to_class W C within i c k l (sound (type i c) a));
              edges = new_edges (conclusions B) budget us fs qs C (conclusions C) added is_news t e p refl (EdgeTrue W) (λ r a b j k l u v. unfold leads in to_leads W C within (Named r) a b j k l (sound (edge (Named r) a b) u));
              pairs = new_pairs (conclusions B) budget us fs qs C (conclusions C) added is_news t e p refl (PairTrue W) (λ i j k l a b. pair_true W C within fits (conclusions C) sound i j l a);
            }
