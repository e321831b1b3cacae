-- What a listing is, and how a run ends that lends a row list in place of the pair list (request No. 6).
use Rattle.std.specs.Prelude.{ℕ, ◌+◌, ◌*◌, ◌<◌, ◌≤◌, ◌≡◌, true, List, length, get_or, replicate, ltb}
use Rattle.book.specs.Read.{pick}
use Rattle.book.specs.Book.{Book, accepted, decode}
use Rattle.rules.specs.Rule.{Set}
use Rattle.rules.specs.Meaning.{conclusions}
use Rattle.rules.specs.Clash.{clashes}
use Rattle.rules.specs.Lists.{types, edges, pairs, used, entries2, entries3, filled}
use Rattle.rules.specs.Ends.{End, Refused, Spent, Clash, Finished, on_decoded}
use Rattle.derivation.specs.Rows.{clash}
use Rattle.derivation.specs.Accept.{claim_at, accepts}
use Rattle.steps.specs.Joinings.{due_count, due_of}
use Rattle.steps.specs.Written.{Written}

-- one row for each type, each edge and each joining, and one for a clash
unfoldable pub row_count : Book → Set → ℕ
row_count B S = due_count B S + pick (clashes B S) 1 0

-- THE COMMON PROPERTY of the listings of a book with the facts S, in a list of n entries: which derivation a fact has, and the order, is free
pub record Listing (B : Book) (S : Set) (n : ℕ) (l : List ℕ) : Type 0 where
  pub room : length l ≡ n
  pub fits : 9 * row_count B S ≤ n
  pub facts : Written B (due_of B S) (due_count B S) l
  pub ends_clash : clashes B S ≡ true → (accepts B l (due_count B S) ≡ true) × (claim_at B l (due_count B S) ≡ clash)
  pub behind : (i : ℕ) → 9 * row_count B S ≤ i → i < n → ◌≡◌ {A = ℕ} (get_or l i 0) 0

-- the end of such a run, and its type list and edge list at exit
pub record Ended : Type 0 where
  pub end : End
  pub types : List ℕ
  pub edges : List ℕ

-- In all that follows ts, es and rs are the type list, the edge list and the row list at entry, and l is the row list at exit.

abbrev pub as_it_was : List ℕ → List ℕ → End → Ended
as_it_was ts es e = record { end = e; types = ts; edges = es }

abbrev pub zeros : List ℕ → List ℕ → End → Ended
zeros ts es e = record { end = e; types = replicate (length ts) 0; edges = replicate (length es) 0 }

abbrev pub done : List ℕ → List ℕ → Book → Set → Ended
done ts es B S =
    record {
      end = Finished (length (types B S)) (length (edges B S)) (length (pairs B S));
      types = filled (entries2 (types B S)) (length ts);
      edges = filled (entries3 (edges B S)) (length es);
    }

-- An accepted book with the facts S, in this order: spent, refusal 13 where the rows do not fit, clash, finished. Finished keeps the pair count.
unfoldable pub ended_from : Book → Set → ℕ → List ℕ → List ℕ → ℕ → Ended
ended_from B S budget ts es room =
    pick (ltb budget (used B S)) (zeros ts es Spent)
    (pick (ltb room (9 * row_count B S)) (zeros ts es (Refused 13))
    (pick (clashes B S) (zeros ts es (Clash (length (types B S)) (length (edges B S))))
    (done ts es B S)))

-- THE OUTCOME of a run that lends a row list of so much room, all but the rows: refusals 1 to 3, the book's own, and then as above.
unfoldable pub ended : List ℕ → ℕ → List ℕ → List ℕ → ℕ → Ended
ended s budget ts es room =
    pick (ltb 1000000 budget) (as_it_was ts es (Refused 1))
    (pick (ltb (length es) (3 * budget)) (as_it_was ts es (Refused 2))
    (pick (ltb (length ts) (2 * budget)) (as_it_was ts es (Refused 3))
    (on_decoded (decode s) (λ n. as_it_was ts es (Refused n)) λ B. ended_from B (conclusions B) budget ts es room)))

-- a listing of the book that the bytes are
abbrev pub Lists : List ℕ → ℕ → List ℕ → Type 0
Lists s n l = (B : Book) → decode s ≡ accepted B → Listing B (conclusions B) n l

-- what is left in the row list: after a refusal and after spent it is as it was, after a clash and after finished it is a listing
abbrev pub Left : List ℕ → End → List ℕ → List ℕ → Type 0
Left s (Refused n) rs l = l ≡ rs
Left s Spent rs l = l ≡ rs
Left s (Clash t e) rs l = Lists s (length rs) l
Left s (Finished t e p) rs l = Lists s (length rs) l

-- THE PROMISE of a run that lends a row list
pub record RowsRun (s : List ℕ) (budget : ℕ) (ts es rs : List ℕ) (o : Ended) (l : List ℕ) : Type 0 where
  pub outcome : o ≡ ended s budget ts es (length rs)
  pub rows : Left s o.end rs l
