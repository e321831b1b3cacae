-- Every listing is accepted whole: of its rows, with 0s behind, exactly as many stand as it has facts and joinings, and one more after a clash.
use Prim.Native.Nat.{ℕ, ◌+◌, ◌*◌, ◌/◌, ◌<◌, ◌≤◌}
use native.Mathlib.Decide.{ℕ_discrete}
use native.Mathlib.Omega.{arith}
use mathlib.Core.Path.{◌≡◌, refl, ap, sym, ◌∙◌, subst}
use mathlib.Core.Bool.{Bool, true, false, ◌&&◌}
use mathlib.Core.List.{List}
use lib.ListN.{length, get_or}
use lib.Dec.{ltb}
use Rattle.book.specs.Read.{pick}
use Rattle.book.specs.Book.{Book}
use Rattle.book.specs.declared.header.Counts.{Counts}
use Rattle.rules.specs.Rule.{Set}
use Rattle.rules.specs.Clash.{clashes}
use Rattle.derivation.specs.declared.row.Row.{Row}
use Rattle.derivation.specs.Rows.{row_at, Claim, nothing, claim, named, earlier}
use Rattle.derivation.specs.Accept.{follows, accepts, stands}
use Rattle.derivation.proofs.Stand.{stands_all, stands_stopped}
use Rattle.steps.specs.Joinings.{due_count}
use Rattle.listing.specs.Listing.{row_count, Listing}

and-false : (a : Bool) → (a && false) ≡ false
and-false true = refl
and-false false = refl

-- nine 0s are no row: the third number of a type is none, and not 0
abbrev pub blank : Row
blank = record { rule = 0; statement = 0; first = 0; second = 0; third = 0; kind = 0; one = 0; two = 0; three = 0 }

blank_claim : (h : Counts) → claim h blank ≡ nothing
unfolding claim
blank_claim h = rw (and-false (ltb 0 h.classes), and-false (ltb 0 h.individuals)) refl

module _ (B : Book) (l : List ℕ) where
  blank_refused : (k : ℕ) → row_at l k ≡ blank → accepts B l k ≡ false
  unfolding accepts
  blank_refused k e = ap (λ (r : Row). earlier k r && follows B r (named B.counts l r) (claim B.counts r)) e ∙ (ap (λ (c : Claim). earlier k blank && follows B blank (named B.counts l blank) c) (blank_claim B.counts) ∙ and-false (earlier k blank))

  module _ (S : Set) (n : ℕ) (h : Listing B S n l) where
    -- the row behind the last, if there is room for one
    behind_blank : row_count B S < length l / 9 → row_at l (row_count B S) ≡ blank
    unfolding row_at
    behind_blank q =
        let i = h.room in
        let z : (j : ℕ) → j < 9 → ◌≡◌ {A = ℕ} (get_or l (9 * row_count B S + j) 0) 0 = λ j w. h.behind (9 * row_count B S + j) (omega arith) (omega arith) in
        rw (h.behind (9 * row_count B S) (omega arith) (omega arith), z 1 (omega arith), z 2 (omega arith), z 3 (omega arith), z 4 (omega arith), z 5 (omega arith), z 6 (omega arith), z 7 (omega arith), z 8 (omega arith)) refl

    each_accepted : (k : ℕ) → k < row_count B S → accepts B l k ≡ true
    unfolding row_count
    each_accepted = go (clashes B S) refl
      where
        go : (b : Bool) → clashes B S ≡ b → (k : ℕ) → k < due_count B S + pick b 1 0 → accepts B l k ≡ true
        go true c k q = last (ℕ_discrete k (due_count B S))
          where
            last : Dec (k ≡ due_count B S) → accepts B l k ≡ true
            last (yes i) = subst (λ (x : ℕ). accepts B l x ≡ true) (sym i) (h.ends_clash c).0
            last (no i) = h.facts.accepted k (omega arith)
        go false c k q = h.facts.accepted k (omega arith)

    pub listing_stands : stands B l ≡ row_count B S
    listing_stands = go (ℕ_discrete (row_count B S) (length l / 9))
      where
        least : row_count B S ≤ length l / 9
        least = let i = h.room in omega (arith, h.fits)

        go : Dec (row_count B S ≡ length l / 9) → stands B l ≡ row_count B S
        go (yes e) = stands_all B l (λ k q. each_accepted k (omega arith)) ∙ sym e
        go (no e) = stands_stopped B l (row_count B S) least each_accepted (blank_refused (row_count B S) (behind_blank (omega (arith, least))))
