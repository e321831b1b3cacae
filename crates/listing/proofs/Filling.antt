-- The rows of a book, from nothing; and how the run ends.
use Prim.Native.Nat.{ℕ, zero, suc, ◌+◌, ◌-◌, ◌*◌, ◌<◌, ◌≤◌}
use native.Mathlib.Omega.{arith}
use mathlib.Core.Path.{◌≡◌, refl, ap, sym, ◌∙◌, subst}
use mathlib.Core.Bool.{Bool, true, false}
use mathlib.Core.List.{List, [], ◌∷◌, ◌++◌}
use lib.ListN.{length, get_or, take, replicate, length-replicate}
use Rattle.book.specs.Read.{pick}
use Rattle.book.specs.Book.{Book}
use Rattle.book.specs.Header.{Limits}
use Rattle.book.specs.declared.header.Counts.{Counts}
use Rattle.rules.specs.Rule.{Set}
use Rattle.rules.specs.Meaning.{conclusions}
use Rattle.rules.specs.Clash.{clashes}
use Rattle.rules.specs.Lists.{types, entries2, filled}
use Rattle.book.specs.Reader.{rest}
use Rattle.tables.specs.Open.{book_of, size_of, Open}
use Rattle.tables.specs.Tables.{Blank, Labelled, Labels}
use Rattle.tables.proofs.Open.{open_limits, open_statements}
use Rattle.tables.proofs.Blank.{blank}
use Rattle.verdict.specs.Listing.{types_of}
use Rattle.verdict.proofs.list.Views.{types_view}
use Rattle.derivation.specs.Rows.{row_at, clash}
use Rattle.derivation.specs.Accept.{claim_at, accepts}
use Rattle.derivation.specs.Entering.{Begin, Entered}
use Rattle.derivation.specs.Judging.{Stated, Marked}
use Rattle.derivation.proofs.Preparing.{enough}
use Rattle.steps.specs.Joinings.{due_count, due_of}
use Rattle.steps.specs.Written.{known_in, Written, Listed}
use Rattle.steps.proofs.Known.{known_low}
use Rattle.steps.proofs.Rows.{Old, same_claim, same_accepts}
use Rattle.turns.specs.Turns.{Located}
use Rattle.listing.specs.Clashes.{ClashPut}
use Rattle.listing.specs.Filled.{Filled}
use Rattle.listing.specs.Listing.{row_count, Listing}
use Rattle.listing.specs.declared.run.Numbers.{Numbers}
use Rattle.listing.specs.Running.{rows_for_lem, Ran, RowsLeft}
use Rattle.listing.proofs.Running.{ran_due}

-- where the statements start
pub located : {s O L T K P : List ℕ} {h : Counts} → Stated s h O L T K P → Located s h T
located q = record { room = q.starts_room; count = open_statements q.opened; starts = q.starts }

-- before the statements are entered, and when they are: T is what takes a concept, of as much room as the concepts ask for
module _ {s O : List ℕ} {h : Counts} (o : Open s h O) where
  pub begin_in : {at : ℕ} {S T P K : List ℕ} → rest s h at ≡ (book_of s).statements → 4096 ≤ length S → Blank T → h.concepts * 8 ≤ length T → 2048 ≤ length P → Blank P → Labelled h.individuals K → Labels h.individuals K (λ i. i)
      → Begin s h at S T (replicate 2048 0) P (replicate 8 0) K
  begin_in left few none room wide clean labelled own = record {
    limits = open_limits o;
    count = open_statements o;
    left = left;
    room = omega (arith, (open_limits o).statements_top);
    rooms = record {
      takers = room;
      disjoint = enough 2048 (h.classes * 8) (omega (arith, (open_limits o).classes_top));
      pairs = omega (arith, (open_limits o).classes_top);
      functional = enough 8 8 (omega arith);
    };
    takers = none;
    disjoint = blank 2048;
    pairs = clean;
    functional = blank 8;
    labelled = labelled;
    labels = own;
  }

  pub marked_in : {S T J P F K : List ℕ} {m n : ℕ} → Entered s h S T J P F K → length T ≡ m → h.concepts * 8 ≤ m → length J ≡ length (replicate {A = ℕ} 2048 0) → length P ≡ n → 2048 ≤ n → length F ≡ length (replicate {A = ℕ} 8 0) → Marked s h T J P F
  marked_in e t k j p l f = record {
    room = omega arith;
    disjoint_room = omega (arith, j, length-replicate {0} {A = ℕ} 2048 0);
    pairs_room = omega arith;
    functional_room = omega (arith, f, length-replicate {0} {A = ℕ} 8 0);
    takers = e.holding.takers;
    disjoint = e.holding.disjoint;
    pairs = e.holding.pairs;
    functional = e.holding.functional;
  }

-- rows that stay
written_same : (B : Book) (P : Set) (n : ℕ) (l m : List ℕ) → Old n l m → Written B P n l → Written B P n m
written_same B P n l m old w = record {
  accepted = λ k i. same_accepts n l m old B k i ∙ w.accepted k i;
  drawn = λ k i. let d = w.drawn k i in (d.0, same_claim n l m old B k i ∙ d.1, d.2);
  each_fact = λ f e. let d = w.each_fact f e in (d.0, d.1, same_claim n l m old B d.0 d.1 ∙ d.2);
  once = λ j k a b e. w.once j k a b (sym (same_claim n l m old B j a) ∙ (e ∙ same_claim n l m old B k b));
}

module _ {s : List ℕ} {h : Counts} {t l : List ℕ} {n : ℕ} (w : Listed s h t n l) (is : known_in h t ≡ conclusions (book_of s)) where
  all_written : Written (book_of s) (due_of (book_of s) (conclusions (book_of s))) n l
  all_written = subst (λ (P : Set). Written (book_of s) (due_of (book_of s) P) n l) is w.written

  pub filled_plain : {c : Bool} → c ≡ false → Filled s h c n t l
  filled_plain e = record { table = w.table; is = is; written = all_written; ends_clash = λ i. absurd (let z : ◌≡◌ {A = ℕ} 0 1 = cc in omega arith) }

  pub filled_clash : (c : Bool) {m : List ℕ} → ClashPut (book_of s) l n m → Filled s h c n t m
  filled_clash c {m} p = record { table = w.table; is = is; written = written_same (book_of s) (due_of (book_of s) (conclusions (book_of s))) n l m p.old all_written; ends_clash = λ i. (p.accepted, p.claims) }

-- ---- the end

-- what is cleared behind the first n entries
get_d_front : (l r : List ℕ) (n i : ℕ) → n ≤ length l → i < n → get_or (take n l ++ r) i 0 ≡ get_or l i 0
get_d_front [] r n i l m = absurd (omega arith)
get_d_front (x ∷ xs) r (suc n) zero l m = refl
get_d_front (x ∷ xs) r (suc n) (suc i) l m = get_d_front xs r n i (omega arith) (omega arith)
get_d_front (x ∷ xs) r zero i l m = absurd (omega arith)

get_d_zeros : (n i : ℕ) → ◌≡◌ {A = ℕ} (get_or (replicate n 0) i 0) 0
get_d_zeros zero i = refl
get_d_zeros (suc n) zero = refl
get_d_zeros (suc n) (suc i) = get_d_zeros n i

get_d_behind : (l r : List ℕ) (n i : ℕ) → n ≤ length l → n ≤ i → get_or (take n l ++ r) i 0 ≡ get_or r (i - n) 0
get_d_behind l r zero i a b = ap (λ (k : ℕ). get_or r k 0) (omega arith)
get_d_behind [] r (suc n) i a b = absurd (omega arith)
get_d_behind (x ∷ xs) r (suc n) zero a b = absurd (omega arith)
get_d_behind (x ∷ xs) r (suc n) (suc i) a b = get_d_behind xs r n i (omega arith) (omega arith) ∙ ap (λ (k : ℕ). get_or r k 0) (omega arith)

pad : (m : ℕ) → m ≡ 0 + m
pad m = omega arith

shift : (n m : ℕ) → suc (n + m) ≡ suc n + m
shift n m = omega arith

cleared_length : (l : List ℕ) (n m : ℕ) → n ≤ length l → length (take n l ++ replicate m 0) ≡ n + m
cleared_length l zero m a = length-replicate {0} {A = ℕ} m 0 ∙ pad m
cleared_length [] (suc n) m a = absurd (omega arith)
cleared_length (x ∷ xs) (suc n) m a = ap suc (cleared_length xs n m (omega arith)) ∙ shift n m

module _ (l m : List ℕ) (k : ℕ) (fits : 9 * k ≤ length l) (e : m ≡ take (9 * k) l ++ replicate (length l - 9 * k) 0) where
  pub cleared_long : length m ≡ length l
  cleared_long = ap length e ∙ (cleared_length l (9 * k) (length l - 9 * k) fits ∙ omega arith)

  pub cleared_zero : (i : ℕ) → 9 * k ≤ i → ◌≡◌ {A = ℕ} (get_or m i 0) 0
  cleared_zero i b = ap (λ (x : List ℕ). get_or x i 0) e ∙ (get_d_behind l (replicate (length l - 9 * k) 0) (9 * k) i fits b ∙ get_d_zeros (length l - 9 * k) (i - 9 * k))

  entry : (i : ℕ) → i < 9 * k → get_or m i 0 ≡ get_or l i 0
  entry i b = ap (λ (x : List ℕ). get_or x i 0) e ∙ get_d_front l (replicate (length l - 9 * k) 0) (9 * k) i fits b

  pub cleared_rows : Old k l m
  unfolding row_at
  cleared_rows j b = rw (entry (9 * j) (omega arith), entry (9 * j + 1) (omega arith), entry (9 * j + 2) (omega arith), entry (9 * j + 3) (omega arith), entry (9 * j + 4) (omega arith), entry (9 * j + 5) (omega arith), entry (9 * j + 6) (omega arith), entry (9 * j + 7) (omega arith), entry (9 * j + 8) (omega arith)) refl

-- so it is a listing
module _ {s : List ℕ} {h : Counts} {c : Bool} {n : ℕ} {t l m : List ℕ} (f : Filled s h c n t l) (all : n ≡ due_count (book_of s) (conclusions (book_of s))) (is : c ≡ clashes (book_of s) (conclusions (book_of s))) (fits : 9 * (n + pick c 1 0) ≤ length l)
    (e : m ≡ take (9 * (n + pick c 1 0)) l ++ replicate (length l - 9 * (n + pick c 1 0)) 0) where
  due : row_count (book_of s) (conclusions (book_of s)) ≡ n + pick c 1 0
  unfolding row_count
  due = rw (all, is) refl

  old : Old (n + pick c 1 0) l m
  old = cleared_rows l m (n + pick c 1 0) fits e

  low : (b : Bool) → n ≤ n + pick b 1 0
  low true = omega arith
  low false = omega arith

  first_rows : Old n l m
  first_rows k i = old k (omega (arith, low c))

  pub listing_of : Listing (book_of s) (conclusions (book_of s)) (length l) m
  listing_of = record {
    room = cleared_long l m (n + pick c 1 0) fits e;
    fits = rw due fits;
    facts = subst (λ (k : ℕ). Written (book_of s) (due_of (book_of s) (conclusions (book_of s))) k m) all (written_same (book_of s) (due_of (book_of s) (conclusions (book_of s))) n l m first_rows f.written);
    ends_clash = λ q. subst (λ (k : ℕ). (accepts (book_of s) m k ≡ true) × (claim_at (book_of s) m k ≡ clash)) all (last (is ∙ q));
    behind = λ i a b. cleared_zero l m (n + pick c 1 0) fits e i (rw due at a);
  }
    where
      last : c ≡ true → (accepts (book_of s) m n ≡ true) × (claim_at (book_of s) m n ≡ clash)
      last q =
          let more : n < n + pick c 1 0 = rw q (omega arith) in
          let p = f.ends_clash q in
          (same_accepts (n + pick c 1 0) l m old (book_of s) n more ∙ p.0, same_claim (n + pick c 1 0) l m old (book_of s) n more ∙ p.1)

-- ---- types off the table

module _ {s : List ℕ} {h : Counts} {c : Bool} {n : ℕ} {t l : List ℕ} (counts : (book_of s).counts ≡ h) (limits : Limits h) (f : Filled s h c n t l) where
  pub types_read : types_of (size_of h) t ≡ types (book_of s) (conclusions (book_of s))
  types_read =
      sym (types_view h (book_of s) counts limits.roles_top limits.individuals_top limits.classes_top t (known_in h t) (known_low h t))
      ∙ ap (types (book_of s)) f.is

-- ---- what is left

pub rows_left : {s : List ℕ} {h : Counts} {r : Numbers} {ts rs us l m : List ℕ} {t : List ℕ} → (book_of s).counts ≡ h → Limits h → Ran s r ts → Filled s h r.clashes (r.types + r.edges + r.joinings) t l → length l ≡ length rs
    → us ≡ pick r.clashes (replicate (length ts) 0) (filled (entries2 (types_of (size_of h) t)) (length ts)) → 9 * rows_for_lem r ≤ length rs → m ≡ take (9 * rows_for_lem r) l ++ replicate (length l - 9 * rows_for_lem r) 0 → RowsLeft s r ts rs us m
rows_left {s} {h} {r} {ts} {rs} {us} {l} {m} {t} counts limits w f long e fits cut = record {
  types = e ∙ rw (types_read counts limits f) refl;
  listing = subst (λ (n : ℕ). Listing (book_of s) (conclusions (book_of s)) n m) long (listing_of f (ran_due w) w.clash (omega (arith, long, fits)) cut);
}
