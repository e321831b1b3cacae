-- Putting together and taking apart the end of a run that lends a row list.
use Prim.Native.Nat.{ℕ, ◌+◌, ◌*◌, ◌<◌, ◌≤◌}
use native.Mathlib.Omega.{arith}
use mathlib.Core.Path.{◌≡◌, refl, ap, sym, ◌∙◌, subst}
use mathlib.Core.Bool.{Bool, true, false}
use mathlib.Core.List.{List}
use lib.ListN.{length}
use lib.Dec.{ltb}
use borrow.Author.Tests.{lt-ltb, le-ltb}
use Rattle.book.specs.Read.{pick}
use Rattle.book.specs.Book.{Book, Decoded, refused, accepted, decode}
use Rattle.rules.specs.Rule.{Set}
use Rattle.rules.specs.Meaning.{conclusions}
use Rattle.rules.specs.Clash.{clashes}
use Rattle.rules.specs.Lists.{types, edges, used}
use Rattle.rules.specs.Ends.{End, Refused, Spent, Clash, Finished, on_decoded}
use Rattle.derivation.specs.Accept.{stands}
use Rattle.steps.specs.Joinings.{joinings, due_count}
use Rattle.listing.specs.Listing.{row_count, Ended, as_it_was, zeros, done, ended_from, ended, Left, RowsRun}
use Rattle.listing.proofs.Stand.{listing_stands}

-- the numbers that an end returns
abbrev first : End → ℕ
first (Refused n) = n
first Spent = 0
first (Clash t e) = t
first (Finished t e p) = t

abbrev second : End → ℕ
second (Refused n) = 0
second Spent = 0
second (Clash t e) = e
second (Finished t e p) = e

module _ (ts es : List ℕ) (room : ℕ) where
  module _ (B : Book) (S : Set) (budget : ℕ) where
    -- in this order
    pub spent_of : budget < used B S → ended_from B S budget ts es room ≡ zeros ts es Spent
    unfolding ended_from
    spent_of l = rw (lt-ltb budget (used B S) l) refl

    pub thirteen_of : used B S ≤ budget → room < 9 * row_count B S → ended_from B S budget ts es room ≡ zeros ts es (Refused 13)
    unfolding ended_from
    thirteen_of l m = rw (le-ltb budget (used B S) l, lt-ltb room (9 * row_count B S) m) refl

    pub clash_of_lem : used B S ≤ budget → 9 * row_count B S ≤ room → clashes B S ≡ true → ended_from B S budget ts es room ≡ zeros ts es (Clash (length (types B S)) (length (edges B S)))
    unfolding ended_from
    clash_of_lem l m c = rw (le-ltb budget (used B S) l, le-ltb room (9 * row_count B S) m, c) refl

    pub finished_of : used B S ≤ budget → 9 * row_count B S ≤ room → clashes B S ≡ false → ended_from B S budget ts es room ≡ done ts es B S
    unfolding ended_from
    finished_of l m c = rw (le-ltb budget (used B S) l, le-ltb room (9 * row_count B S) m, c) refl

    abbrev From : Bool → Bool → Bool → Ended
    From a b c = pick a (zeros ts es Spent) (pick b (zeros ts es (Refused 13)) (pick c (zeros ts es (Clash (length (types B S)) (length (edges B S)))) (done ts es B S)))

    -- the number of rows is what the end says
    finished_rows : (t e p : ℕ) → (ended_from B S budget ts es room).end ≡ Finished t e p → row_count B S ≡ t + e + length (joinings B S)
    unfolding ended_from row_count due_count used
    finished_rows t e p = go (ltb budget (used B S)) (ltb room (9 * row_count B S)) (clashes B S)
      where
        go : (a b c : Bool) → (From a b c).end ≡ Finished t e p → length (types B S) + length (edges B S) + length (joinings B S) + pick c 1 0 ≡ t + e + length (joinings B S)
        go true b c q = absurd (let o : ◌≡◌ {A = ℕ} 0 1 = cc in omega arith)
        go false true c q = absurd (let o : ◌≡◌ {A = ℕ} 0 1 = cc in omega arith)
        go false false true q = absurd (let o : ◌≡◌ {A = ℕ} 0 1 = cc in omega arith)
        go false false false q = let i : length (types B S) ≡ t = ap first q in let j : length (edges B S) ≡ e = ap second q in omega arith

    clash_rows : (t e : ℕ) → (ended_from B S budget ts es room).end ≡ Clash t e → row_count B S ≡ t + e + length (joinings B S) + 1
    unfolding ended_from row_count due_count used
    clash_rows t e = go (ltb budget (used B S)) (ltb room (9 * row_count B S)) (clashes B S)
      where
        go : (a b c : Bool) → (From a b c).end ≡ Clash t e → length (types B S) + length (edges B S) + length (joinings B S) + pick c 1 0 ≡ t + e + length (joinings B S) + 1
        go true b c q = absurd (let o : ◌≡◌ {A = ℕ} 0 1 = cc in omega arith)
        go false true c q = absurd (let o : ◌≡◌ {A = ℕ} 0 1 = cc in omega arith)
        go false false true q = let i : length (types B S) ≡ t = ap first q in let j : length (edges B S) ≡ e = ap second q in omega arith
        go false false false q = absurd (let o : ◌≡◌ {A = ℕ} 0 1 = cc in omega arith)

  module _ (s : List ℕ) (budget : ℕ) where
    pub refused_1 : 1000000 < budget → ended s budget ts es room ≡ as_it_was ts es (Refused 1)
    unfolding ended
    refused_1 l = rw (lt-ltb 1000000 budget l) refl

    pub refused_2 : budget ≤ 1000000 → length es < 3 * budget → ended s budget ts es room ≡ as_it_was ts es (Refused 2)
    unfolding ended
    refused_2 l m = rw (le-ltb 1000000 budget l, lt-ltb (length es) (3 * budget) m) refl

    pub refused_3 : budget ≤ 1000000 → 3 * budget ≤ length es → length ts < 2 * budget → ended s budget ts es room ≡ as_it_was ts es (Refused 3)
    unfolding ended
    refused_3 l m k = rw (le-ltb 1000000 budget l, le-ltb (length es) (3 * budget) m, lt-ltb (length ts) (2 * budget) k) refl

    module _ (within : budget ≤ 1000000) (edges_fit : 3 * budget ≤ length es) (types_fit : 2 * budget ≤ length ts) where
      pub refused_book : (n : ℕ) → decode s ≡ refused n → ended s budget ts es room ≡ as_it_was ts es (Refused n)
      unfolding ended
      refused_book n e = rw (le-ltb 1000000 budget within, le-ltb (length es) (3 * budget) edges_fit, le-ltb (length ts) (2 * budget) types_fit, e) refl

      pub accepted_book : (B : Book) → decode s ≡ accepted B → ended s budget ts es room ≡ ended_from B (conclusions B) budget ts es room
      unfolding ended
      accepted_book B e = rw (le-ltb 1000000 budget within, le-ltb (length es) (3 * budget) edges_fit, le-ltb (length ts) (2 * budget) types_fit, e) refl

    abbrev Run : Bool → Bool → Bool → Decoded → Ended
    Run a b c d =
        pick a (as_it_was ts es (Refused 1))
        (pick b (as_it_was ts es (Refused 2))
        (pick c (as_it_was ts es (Refused 3)) (on_decoded d (λ n. as_it_was ts es (Refused n)) λ B. ended_from B (conclusions B) budget ts es room)))

    module _ (B : Book) (book : decode s ≡ accepted B) where
      run_book_lem : ended s budget ts es room ≡ Run (ltb 1000000 budget) (ltb (length es) (3 * budget)) (ltb (length ts) (2 * budget)) (accepted B)
      unfolding ended
      run_book_lem = ap (Run (ltb 1000000 budget) (ltb (length es) (3 * budget)) (ltb (length ts) (2 * budget))) book

      pub ends_finished : (t e p : ℕ) → (ended s budget ts es room).end ≡ Finished t e p → row_count B (conclusions B) ≡ t + e + length (joinings B (conclusions B))
      ends_finished t e p q = go (ltb 1000000 budget) (ltb (length es) (3 * budget)) (ltb (length ts) (2 * budget)) (ap (λ (o : Ended). o.end) (sym run_book_lem) ∙ q)
        where
          go : (a b c : Bool) → (Run a b c (accepted B)).end ≡ Finished t e p → row_count B (conclusions B) ≡ t + e + length (joinings B (conclusions B))
          go true b c i = absurd (let o : ◌≡◌ {A = ℕ} 0 1 = cc in omega arith)
          go false true c i = absurd (let o : ◌≡◌ {A = ℕ} 0 1 = cc in omega arith)
          go false false true i = absurd (let o : ◌≡◌ {A = ℕ} 0 1 = cc in omega arith)
          go false false false i = finished_rows B (conclusions B) budget t e p i

      pub ends_clash : (t e : ℕ) → (ended s budget ts es room).end ≡ Clash t e → row_count B (conclusions B) ≡ t + e + length (joinings B (conclusions B)) + 1
      ends_clash t e q = go (ltb 1000000 budget) (ltb (length es) (3 * budget)) (ltb (length ts) (2 * budget)) (ap (λ (o : Ended). o.end) (sym run_book_lem) ∙ q)
        where
          go : (a b c : Bool) → (Run a b c (accepted B)).end ≡ Clash t e → row_count B (conclusions B) ≡ t + e + length (joinings B (conclusions B)) + 1
          go true b c i = absurd (let o : ◌≡◌ {A = ℕ} 0 1 = cc in omega arith)
          go false true c i = absurd (let o : ◌≡◌ {A = ℕ} 0 1 = cc in omega arith)
          go false false true i = absurd (let o : ◌≡◌ {A = ℕ} 0 1 = cc in omega arith)
          go false false false i = clash_rows B (conclusions B) budget t e i

-- Every listing is accepted: of the row list that a run leaves, as many rows stand as it has facts and joinings, and one more after a clash.
module _ (s : List ℕ) (budget : ℕ) (ts es rs : List ℕ) (o : Ended) (l : List ℕ) (run : RowsRun s budget ts es rs o l) (B : Book) (book : decode s ≡ accepted B) where
  listed : (x : End) → o.end ≡ x → Left s x rs l
  listed x q = subst (λ (y : End). Left s y rs l) q run.rows

  ends : (x : End) → o.end ≡ x → (ended s budget ts es (length rs)).end ≡ x
  ends x q = ap (λ (y : Ended). y.end) (sym run.outcome) ∙ q

  pub finished_stands : (t e p : ℕ) → o.end ≡ Finished t e p → stands B l ≡ t + e + length (joinings B (conclusions B))
  finished_stands t e p q = listing_stands B l (conclusions B) (length rs) (listed (Finished t e p) q B book) ∙ ends_finished ts es (length rs) s budget B book t e p (ends (Finished t e p) q)

  pub clash_stands : (t e : ℕ) → o.end ≡ Clash t e → stands B l ≡ t + e + length (joinings B (conclusions B)) + 1
  clash_stands t e q = listing_stands B l (conclusions B) (length rs) (listed (Clash t e) q B book) ∙ ends_clash ts es (length rs) s budget B book t e (ends (Clash t e) q)
