-- The ways of the functions that read a row: what each return has.
use Prim.Native.Nat.{ℕ, ◌+◌, ◌*◌, ◌<◌, ◌≤◌}
use native.Mathlib.Omega.{arith}
use mathlib.Core.Path.{◌≡◌, refl}
use mathlib.Core.Bool.{Bool, true, false, ◌&&◌, ◌||◌}
use mathlib.Core.List.{List}
use lib.Dec.{eqb, ltb}
use borrow.Author.Tests.{eqb-true, eq-eqb, ne_eqb, ltb-true, lt-ltb, le-ltb}
use Rattle.book.specs.Header.{Limits}
use Rattle.book.specs.Read.{pick}
use Rattle.book.specs.declared.header.Counts.{Counts}
use Rattle.book.specs.declared.role.Role.TheVariants.{Named}
use Rattle.rules.specs.Fact.{edge, type, pair}
use Rattle.rules.proofs.Tests.{and_both}
use Rattle.rules.proofs.Facts.{pair_lt}
use Rattle.derivation.specs.declared.row.Row.{Row}
use Rattle.derivation.specs.Rows.{none, row_at, Claim, fact, clash, nothing, type_claim_lem, edge_claim_lem, clash_claim_lem, pair_claim_lem, claim, says_row, fact_in, number_of, before, earlier}
use Rattle.derivation.proofs.Fitting.{edge_low, type_low}
use Rattle.derivation.proofs.Judging.{Low}

and-false : (a : Bool) → (a && false) ≡ false
and-false true = refl
and-false false = refl

module _ (h : Counts) (r : Row) where
  pub type_yes : (y : ℕ) → r.one < h.individuals → r.two < h.classes → r.three ≡ none → y ≡ type r.one r.two → y ≡ number_of (type_claim_lem h r)
  type_yes y i j k e = rw (lt-ltb r.one _ i, lt-ltb r.two _ j, eq-eqb r.three none k) e

  pub type_third : r.one < h.individuals → r.two < h.classes → (r.three ≡ none → ⊥) → none ≡ number_of (type_claim_lem h r)
  type_third i j k = rw (lt-ltb r.one _ i, lt-ltb r.two _ j, ne_eqb r.three none k) refl

  pub type_second : r.one < h.individuals → h.classes ≤ r.two → none ≡ number_of (type_claim_lem h r)
  type_second i j = rw (lt-ltb r.one _ i, le-ltb r.two _ j) refl

  pub type_first : h.individuals ≤ r.one → none ≡ number_of (type_claim_lem h r)
  type_first i = rw (le-ltb r.one _ i) refl

  pub edge_yes : (y : ℕ) → r.one < h.roles → r.two < h.individuals → r.three < h.individuals → y ≡ edge (Named r.one) r.two r.three → y ≡ number_of (edge_claim_lem h r)
  edge_yes y i j k e = rw (lt-ltb r.one _ i, lt-ltb r.two _ j, lt-ltb r.three _ k) e

  pub edge_third : r.one < h.roles → r.two < h.individuals → h.individuals ≤ r.three → none ≡ number_of (edge_claim_lem h r)
  edge_third i j k = rw (lt-ltb r.one _ i, lt-ltb r.two _ j, le-ltb r.three _ k) refl

  pub edge_second : r.one < h.roles → h.individuals ≤ r.two → none ≡ number_of (edge_claim_lem h r)
  edge_second i j = rw (lt-ltb r.one _ i, le-ltb r.two _ j) refl

  pub edge_first : h.roles ≤ r.one → none ≡ number_of (edge_claim_lem h r)
  edge_first i = rw (le-ltb r.one _ i) refl

  pub pair_yes : (y : ℕ) → r.one < r.two → r.two < h.individuals → r.three ≡ none → y ≡ pair r.one r.two → y ≡ number_of (pair_claim_lem h r)
  pair_yes y i j k e = rw (lt-ltb r.one r.two i, lt-ltb r.two _ j, eq-eqb r.three none k) e

  pub pair_third : r.one < r.two → r.two < h.individuals → (r.three ≡ none → ⊥) → none ≡ number_of (pair_claim_lem h r)
  pair_third i j k = rw (lt-ltb r.one r.two i, lt-ltb r.two _ j, ne_eqb r.three none k) refl

  pub pair_second : r.one < r.two → h.individuals ≤ r.two → none ≡ number_of (pair_claim_lem h r)
  pair_second i j = rw (lt-ltb r.one r.two i, le-ltb r.two _ j) refl

  pub pair_first : r.two ≤ r.one → none ≡ number_of (pair_claim_lem h r)
  pair_first i = rw (le-ltb r.one r.two i) refl

  pub claim_type : (y : ℕ) → r.kind ≡ 0 → y ≡ number_of (type_claim_lem h r) → y ≡ number_of (claim h r)
  unfolding claim
  claim_type y i e = rw (eq-eqb r.kind 0 i) e

  pub claim_edge : (y : ℕ) → (r.kind ≡ 0 → ⊥) → r.kind ≡ 1 → y ≡ number_of (edge_claim_lem h r) → y ≡ number_of (claim h r)
  unfolding claim
  claim_edge y i j e = rw (ne_eqb r.kind 0 i, eq-eqb r.kind 1 j) e

  pub claim_clash : (y : ℕ) → (r.kind ≡ 0 → ⊥) → (r.kind ≡ 1 → ⊥) → r.kind ≡ 2 → y ≡ number_of (clash_claim_lem r) → y ≡ number_of (claim h r)
  unfolding claim
  claim_clash y i j k e = rw (ne_eqb r.kind 0 i, ne_eqb r.kind 1 j, eq-eqb r.kind 2 k) e

  pub claim_pair : (y : ℕ) → (r.kind ≡ 0 → ⊥) → (r.kind ≡ 1 → ⊥) → (r.kind ≡ 2 → ⊥) → r.kind ≡ 3 → y ≡ number_of (pair_claim_lem h r)
      → y ≡ number_of (claim h r)
  unfolding claim
  claim_pair y i j k l e = rw (ne_eqb r.kind 0 i, ne_eqb r.kind 1 j, ne_eqb r.kind 2 k, eq-eqb r.kind 3 l) e

  pub claim_none : (r.kind ≡ 0 → ⊥) → (r.kind ≡ 1 → ⊥) → (r.kind ≡ 2 → ⊥) → (r.kind ≡ 3 → ⊥) → none ≡ number_of (claim h r)
  unfolding claim
  claim_none i j k l = rw (ne_eqb r.kind 0 i, ne_eqb r.kind 1 j, ne_eqb r.kind 2 k, ne_eqb r.kind 3 l) refl

  -- what is claimed is below `none`
  pub claim_low : Limits h → Low (claim h r)
  unfolding claim
  claim_low top = kinds (eqb r.kind 0) (eqb r.kind 1) (eqb r.kind 2) (eqb r.kind 3)
    where
      types : (a b c : Bool) → ltb r.one h.individuals ≡ a → ltb r.two h.classes ≡ b → Low (pick (a && (b && c)) (fact (type r.one r.two)) nothing)
      types true true true i j =
          let m = ltb-true r.one _ i in
          let n = ltb-true r.two _ j in
          let z = type_low r.one r.two (omega (arith, top.individuals_top)) (omega (arith, top.classes_top)) in
          omega arith
      types true true false i j = tt
      types true false c i j = tt
      types false b c i j = tt

      edges : (a b c : Bool) → ltb r.one h.roles ≡ a → ltb r.two h.individuals ≡ b → ltb r.three h.individuals ≡ c → Low (pick (a && (b && c)) (fact (edge (Named r.one) r.two r.three)) nothing)
      edges true true true i j k =
          let m = ltb-true r.one _ i in
          let n = ltb-true r.two _ j in
          let o = ltb-true r.three _ k in
          let z = edge_low (Named r.one) r.two r.three (omega (arith, top.roles_top)) (omega (arith, top.individuals_top)) (omega (arith, top.individuals_top)) in
          omega arith
      edges true true false i j k = tt
      edges true false c i j k = tt
      edges false b c i j k = tt

      clashing : (a b c : Bool) → Low (pick (a && (b && c)) clash nothing)
      clashing true true true = tt
      clashing true true false = tt
      clashing true false c = tt
      clashing false b c = tt

      joinings : (a b c : Bool) → ltb r.one r.two ≡ a → ltb r.two h.individuals ≡ b → Low (pick (a && (b && c)) (fact (pair r.one r.two)) nothing)
      joinings true true true i j =
          let m = ltb-true r.one r.two i in
          let n = ltb-true r.two _ j in
          pair_lt r.one r.two (omega (arith, top.individuals_top)) (omega (arith, top.individuals_top))
      joinings true true false i j = tt
      joinings true false c i j = tt
      joinings false b c i j = tt

      kinds : (a b c d : Bool) → Low (pick a (type_claim_lem h r) (pick b (edge_claim_lem h r) (pick c (clash_claim_lem r) (pick d (pair_claim_lem h r) nothing))))
      kinds true b c d = types (ltb r.one h.individuals) (ltb r.two h.classes) (eqb r.three none) refl refl
      kinds false true c d = edges (ltb r.one h.roles) (ltb r.two h.individuals) (ltb r.three h.individuals) refl refl refl
      kinds false false true d = clashing (eqb r.one none) (eqb r.two none) (eqb r.three none)
      kinds false false false true = joinings (ltb r.one r.two) (ltb r.two h.individuals) (eqb r.three none) refl refl
      kinds false false false false = tt

module _ (r : Row) where
  pub clash_yes : r.one ≡ none → r.two ≡ none → r.three ≡ none → ◌≡◌ {A = ℕ} 4294967294 (number_of (clash_claim_lem r))
  clash_yes i j k = rw (eq-eqb r.one none i, eq-eqb r.two none j, eq-eqb r.three none k) refl

  pub clash_third : r.one ≡ none → r.two ≡ none → (r.three ≡ none → ⊥) → none ≡ number_of (clash_claim_lem r)
  clash_third i j k = rw (eq-eqb r.one none i, eq-eqb r.two none j, ne_eqb r.three none k) refl

  pub clash_second : r.one ≡ none → (r.two ≡ none → ⊥) → none ≡ number_of (clash_claim_lem r)
  clash_second i j = rw (eq-eqb r.one none i, ne_eqb r.two none j) refl

  pub clash_first : (r.one ≡ none → ⊥) → none ≡ number_of (clash_claim_lem r)
  clash_first i = rw (ne_eqb r.one none i) refl

-- the fact of a claim, by its number
fact_number : (c : Claim) (n : ℕ) → Low c → n ≡ number_of c → (n ≡ 4294967294 → ⊥) → n ≡ fact_in c
fact_number (fact g) n l e k = e
fact_number clash n l e k = absurd (k e)
fact_number nothing n l e k = e

clash_number : (c : Claim) (n : ℕ) → Low c → n ≡ number_of c → n ≡ 4294967294 → none ≡ fact_in c
clash_number (fact g) n l e k = absurd (omega arith)
clash_number clash n l e k = refl
clash_number nothing n l e k = absurd (omega arith)

module _ (h : Counts) (top : Limits h) (l : List ℕ) (x : ℕ) where
  pub named_none : x ≡ none → none ≡ fact_in (says_row h l x)
  named_none i = rw (eq-eqb x none i) refl

  pub named_clash_lem : {r : Row} {n : ℕ} → (x ≡ none → ⊥) → r ≡ row_at l x → n ≡ number_of (claim h r) → n ≡ 4294967294 → none ≡ fact_in (says_row h l x)
  named_clash_lem {r} {n} i e f k = rw (ne_eqb x none i, ← e) (clash_number (claim h r) n (claim_low h r top) f k)

  pub named_fact_lem : {r : Row} {n : ℕ} → (x ≡ none → ⊥) → r ≡ row_at l x → n ≡ number_of (claim h r) → (n ≡ 4294967294 → ⊥) → n ≡ fact_in (says_row h l x)
  named_fact_lem {r} {n} i e f k = rw (ne_eqb x none i, ← e) (fact_number (claim h r) n (claim_low h r top) f k)

-- an earlier row is in the list
pub before_in : (k x n : ℕ) → before k x ≡ true → 9 * k ≤ n → (x ≡ none → ⊥) → 9 * x + 9 ≤ n
before_in k x n e l i = go (eqb x none) refl e
  where
    go : (b : Bool) → eqb x none ≡ b → (b || ltb x k) ≡ true → 9 * x + 9 ≤ n
    go true q w = absurd (i (eqb-true x none q))
    go false q w = let m = ltb-true x k w in omega arith

pub earlier_all : (k : ℕ) (r : Row) → earlier k r ≡ true → (before k r.first ≡ true) × (before k r.second ≡ true) × (before k r.third ≡ true)
unfolding earlier
earlier_all k r e = let a = and_both (before k r.first) _ e in let b = and_both (before k r.second) (before k r.third) a.1 in (a.0, b.0, b.1)
