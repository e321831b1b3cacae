-- The outcome of complete tables, from what was counted and listed of them.
use Prim.Native.Nat.{ℕ, ◌+◌, ◌-◌, ◌*◌, ◌<◌, ◌≤◌}
use native.Mathlib.Omega.{arith}
use mathlib.Core.Path.{◌≡◌, refl, ap, sym, ◌∙◌}
use mathlib.Core.Bool.{Bool, true, false, ◌&&◌, ◌||◌}
use mathlib.Core.List.{List}
use lib.ListN.{length, get_or, replicate}
use lib.Dec.{ltb, eqb}
use borrow.Author.Tests.{lt-ltb, le-ltb, eq-eqb, eqb-true}
use Rattle.rows.specs.Row.{has}
use Rattle.rows.specs.declared.table.Size.{Size}
use Rattle.rules.specs.Fact.{two}
use Rattle.rules.specs.Lists.{entries2, entries3, filled}
use Rattle.rules.specs.Ends.{Outcome}
use Rattle.rules.proofs.Tests.{both_ways}
use Rattle.rules.proofs.Sums.{length_gather, sum_le}
use Rattle.book.specs.declared.refusal.Refusal.TheVariants.{ShortPairList}
use Rattle.verdict.specs.declared.end.End.TheVariants.{Finished as finished, Clash as clash, Refused as refused}
use Rattle.tables.specs.Tables.{Labelled, Grouped}
use Rattle.said.specs.declared.layout.Layout.{Layout}
use Rattle.verdict.specs.Verdict.{clash_in}
use Rattle.verdict.specs.Listing.{behind_of, pairs_of_lem, types_of, all_edges_lem}
use Rattle.verdict.specs.Conclude.{came, same_pairs, finishing, concluded}
use Rattle.verdict.proofs.list.Gathers.{gather_agree, gather_few}
use Rattle.verdict.proofs.list.Views.{only_agree}

-- at most 512 behind each of 512
pub pairs_few : (K G : List ℕ) (n : ℕ) {same : ℕ} → same ≡ length (pairs_of_lem K G n) → n ≤ 512 → same ≤ 262144
unfolding pairs_of_lem
pairs_few K G n e h =
    omega (arith, length_gather n (λ i. behind_of i G (get_or K i 0) n), sum_le n 512 (λ i. length (behind_of i G (get_or K i 0) n)) (λ i l. omega (arith, gather_few n (λ b. ltb i b && has G (get_or K i 0) b) (two i))))

-- the rows of the labels list what has one label
pub same_listed : {n : ℕ} {K G : List ℕ} → Labelled n K → Grouped n K G → pairs_of_lem K G n ≡ same_pairs n K
unfolding pairs_of_lem same_pairs
same_listed {n} {K} {G} p g = gather_agree n _ _ λ i l. only_agree n (λ j. ltb i j && has G (get_or K i 0) j) (λ j. ltb i j && eqb (get_or K i 0) (get_or K j 0)) (two i) λ j m.
    ap (λ (b : Bool). ltb i j && b) (g.rows (get_or K i 0) j (p.low i l) m ∙ turned (get_or K j 0) (get_or K i 0))
  where
    turned : (a b : ℕ) → eqb a b ≡ eqb b a
    turned a b = both_ways (eqb a b) (eqb b a) (λ e. eq-eqb b a (sym (eqb-true a b e))) (λ e. eq-eqb a b (sym (eqb-true b a e)))

-- and so many there are
pub same_counted : {n : ℕ} {K G : List ℕ} {same : ℕ} → Labelled n K → Grouped n K G → same ≡ length (pairs_of_lem K G n) → same ≡ length (same_pairs n K)
same_counted p g e = e ∙ ap length (same_listed p g)

module _ (z : Size) (t K ts es ps : List ℕ) {us fs qs : List ℕ} where
  -- the pairs do not fit
  pub refused_outcome : {same : ℕ} → same ≡ length (same_pairs z.individuals K) → length ps < 2 * same
      → us ≡ replicate (length ts) 0 → fs ≡ replicate (length es) 0 → qs ≡ replicate (length ps) 0
      → came (refused ShortPairList) us fs qs ≡ finishing z t K ts es ps
  refused_outcome e l a b c = rw (← e, lt-ltb _ _ l, a, b, c) refl

  -- they fit
  pub finished_outcome : {count used same : ℕ} → count ≡ length (types_of z t) → used ≡ count + length (all_edges_lem z t) → same ≡ length (same_pairs z.individuals K)
      → 2 * same ≤ length ps
      → us ≡ filled (entries2 (types_of z t)) (length ts) → fs ≡ filled (entries3 (all_edges_lem z t)) (length es) → qs ≡ filled (entries2 (same_pairs z.individuals K)) (length ps)
      → came (finished count (used - count) same) us fs qs ≡ finishing z t K ts es ps
  finished_outcome {count} {used} d u e l a b c =
      let f : used - count ≡ length (all_edges_lem z t) = omega arith in
      rw (a, b, c, f, d, ← e, le-ltb _ _ l) refl

module _ (l : Layout) (t S L K : List ℕ) (d : Bool) (ts es ps : List ℕ) where
  -- a clash stands
  pub clash_outcome : {count used : ℕ} {us fs qs : List ℕ} {x : Bool} → x ≡ (clash_in l t S L || d) → x ≡ true
      → count ≡ length (types_of l.size t) → used ≡ length (types_of l.size t) + length (all_edges_lem l.size t)
      → us ≡ replicate (length ts) 0 → fs ≡ replicate (length es) 0 → qs ≡ replicate (length ps) 0
      → came (clash count (used - count)) us fs qs ≡ concluded l t S L K d ts es ps
  unfolding concluded
  clash_outcome {count} {used} x k w u a b c =
      let f : used - count ≡ length (all_edges_lem l.size t) = omega arith in
      rw (a, b, c, f, w, ← x, k) refl

  -- none stands; of the list of types only the length matters
  pub calm_outcome : (vs : List ℕ) {o : Outcome} {x : Bool} → x ≡ (clash_in l t S L || d) → x ≡ false → length vs ≡ length ts
      → o ≡ finishing l.size t K vs es ps → o ≡ concluded l t S L K d ts es ps
  unfolding concluded
  calm_outcome vs x k e h = rw (← x, k, ← e) h
