-- The joinings by labels are those of the conclusions.
use Prim.Native.Nat.{ℕ, ◌+◌, ◌<◌, ◌≤◌}
use native.Mathlib.Decide.{dec_lt}
use native.Mathlib.Omega.{arith}
use mathlib.Core.Path.{◌≡◌, refl, ap, sym, ◌∙◌, subst}
use mathlib.Core.Bool.{Bool, true, false, not, ◌&&◌}
use mathlib.Core.List.{List}
use lib.ListN.{length, length-append, get_or}
use lib.Dec.{eqb, ltb}
use borrow.Author.Tests.{eq-eqb, ne_eqb, lt-ltb, le-ltb}
use Rattle.book.specs.Book.{Book}
use Rattle.book.specs.Read.{pick}
use Rattle.book.specs.declared.header.Counts.{Counts}
use Rattle.rules.specs.Fact.{pair, two}
use Rattle.rules.specs.Rule.{Set}
use Rattle.rules.specs.ToldSame.{same}
use Rattle.rules.specs.Same.{same_pair}
use Rattle.rules.specs.Meaning.{conclusions}
use Rattle.rules.specs.Spoken.{anyone}
use Rattle.rules.specs.Lists.{gather, only, used}
use Rattle.rules.proofs.Inside.{Inside}
use Rattle.rules.proofs.Engine.{run_above, run_closed}
use Rattle.rules.proofs.Spoken.{heedings_all}
use Rattle.tables.specs.Open.{book_of, book_with, size_of, Open}
use Rattle.tables.proofs.Open.{open_limits}
use Rattle.rounds.specs.View.{held}
use Rattle.rounds.proofs.Held.{held_pair}
use Rattle.verdict.proofs.list.Gathers.{gather_more, gather_agree, gather_few}
use Rattle.verdict.proofs.list.Views.{only_agree}
use Rattle.saturation.specs.Run.{heard_book, Drawn}
use Rattle.saturation.proofs.run.Closing.{heard_inside}
use Rattle.derivation.specs.Tables.{LabelsOf}
use Rattle.steps.specs.Joinings.{joining, joinings}
use Rattle.listing.specs.Joins.{joined_by, joined_with, joined_among}

module _ (T K : List ℕ) where
  -- ---- whether two are a joining

  module _ (i j : ℕ) where
    pub joined_back : j ≤ i → false ≡ joined_by T K i j
    unfolding joined_by
    joined_back l = rw (le-ltb i j l) refl

    pub joined_apart : (get_or K i 0 ≡ get_or K j 0 → ⊥) → false ≡ joined_by T K i j
    unfolding joined_by
    joined_apart e = go (ltb i j)
      where
        go : (b : Bool) → false ≡ (b && (eqb (get_or K i 0) (get_or K j 0) && not (eqb (get_or T i 0) (get_or T j 0))))
        go true = rw (ne_eqb _ _ e) refl
        go false = refl

    pub joined_told : i < j → get_or K i 0 ≡ get_or K j 0 → not (eqb (get_or T i 0) (get_or T j 0)) ≡ joined_by T K i j
    unfolding joined_by
    joined_told l e = rw (lt-ltb i j l, eq-eqb _ _ e) refl

  -- ---- counted one by one

  only_one : (b : Bool) (i j : ℕ) → length (only b (two i j)) ≡ pick b 1 0
  only_one true i j = refl
  only_one false i j = refl

  pub with_none : (i : ℕ) → 0 ≡ length (joined_with T K i 0)
  unfolding joined_with
  with_none i = refl

  pub with_more : (i m : ℕ) → length (joined_with T K i m) + pick (joined_by T K i m) 1 0 ≡ length (joined_with T K i (m + 1))
  unfolding joined_with
  with_more i m =
      sym (ap length (gather_more m (λ j. only (joined_by T K i j) (two i j)))
      ∙ (length-append (gather m (λ j. only (joined_by T K i j) (two i j))) (only (joined_by T K i m) (two i m))
      ∙ ap (λ (x : ℕ). length (gather m (λ j. only (joined_by T K i j) (two i j))) + x) (only_one (joined_by T K i m) i m)))

  pub with_few : (i m : ℕ) → length (joined_with T K i m) ≤ m
  unfolding joined_with
  with_few i m = gather_few m (joined_by T K i) (two i)

  pub among_none : (n : ℕ) → 0 ≡ length (joined_among T K n 0)
  unfolding joined_among
  among_none n = refl

  pub among_more : (n m : ℕ) → length (joined_among T K n m) + length (joined_with T K m n) ≡ length (joined_among T K n (m + 1))
  unfolding joined_among
  among_more n m =
      sym (ap length (gather_more m (λ i. joined_with T K i n)) ∙ length-append (gather m (λ i. joined_with T K i n)) (joined_with T K m n))

-- ---- the labels of a run

-- with no reader and no day all statements count
heard_all : (s : List ℕ) → heard_book anyone s ≡ book_of s
heard_all s = ap (book_with s) (heedings_all (book_of s).statements)

module _ {s O : List ℕ} {h : Counts} (o : Open s h O) {u budget : ℕ} {S L K t : List ℕ} {b : Bool} (d : Drawn h (heard_book anyone s) budget S L K t u b) (spare : used (book_of s) (conclusions (book_of s)) ≤ budget) where
  inside : Inside (heard_book anyone s)
  inside = heard_inside anyone o

  all_spare : used (heard_book anyone s) (conclusions (heard_book anyone s)) ≤ budget
  all_spare = subst (λ (B : Book). used B (conclusions B) ≤ budget) (sym (heard_all s)) spare

  within : u ≤ budget
  within = go (dec_lt budget u)
    where
      go : Dec (budget < u) → u ≤ budget
      go (yes l) = absurd (omega (arith, all_spare, run_above (heard_book anyone s) inside (held (size_of h) K t) u d.reached budget l))
      go (no l) = omega arith

  drawn_is : held (size_of h) K t ≡ conclusions (book_of s)
  drawn_is = run_closed (heard_book anyone s) inside (held (size_of h) K t) u d.reached (d.closed within) ∙ ap conclusions (heard_all s)

  label_pair : (i j : ℕ) → i < h.individuals → j < h.individuals → eqb (get_or K i 0) (get_or K j 0) ≡ conclusions (book_of s) (pair i j)
  label_pair i j k l = sym (held_pair (size_of h) K (open_limits o).individuals_top t i j k l) ∙ ap (λ (P : Set). P (pair i j)) drawn_is

  module _ {T : List ℕ} (told : LabelsOf (book_of s) h T) where
    by_assoc : (a b c : Bool) → (a && (b && c)) ≡ ((a && b) && c)
    by_assoc true b c = refl
    by_assoc false b c = refl

    joined_is : (i j : ℕ) → i < h.individuals → j < h.individuals → joined_by T K i j ≡ joining (book_of s) (conclusions (book_of s)) i j
    unfolding joined_by same_pair
    joined_is i j k l = rw (label_pair i j k l, told.labels i j k l) (by_assoc (ltb i j) (conclusions (book_of s) (pair i j)) (not (same (book_of s) i j)))

    few : (book_of s).counts.individuals ≡ h.individuals
    few = ap (λ (g : Counts). g.individuals) o.counts

    joined_lists : (n : ℕ) → n ≡ h.individuals → joined_among T K h.individuals h.individuals ≡ gather n λ i. gather n λ j. only (joining (book_of s) (conclusions (book_of s)) i j) (two i j)
    unfolding joined_among joined_with
    joined_lists n e = rw e (gather_agree h.individuals _ _ (λ i k. only_agree h.individuals _ _ (two i) (λ j l. joined_is i j k l)))

    pub joined_all : length (joined_among T K h.individuals h.individuals) ≡ length (joinings (book_of s) (conclusions (book_of s)))
    unfolding joinings
    joined_all = ap length (joined_lists (book_of s).counts.individuals few)
