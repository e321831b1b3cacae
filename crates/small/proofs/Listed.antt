-- THE LIST IS RIGHT: each entry is a small book, every small book is an entry, and they ascend.
use Prim.Native.Nat.{ℕ, ◌+◌, ◌*◌, ◌≤◌, ◌<◌}
use native.Mathlib.Omega.{arith}
use native.Mathlib.Decide.{dec_lt, ℕ_discrete}
use mathlib.Core.Path.{◌≡◌, refl, sym, ap, ap₂, ◌∙◌, subst, subst₂}
use mathlib.Core.Logic.{◌⊎◌, inl, inr}
use mathlib.Core.Bool.{true, false}
use mathlib.Core.List.{List, [], ◌∷◌, ◌++◌}
use lib.ListN.{length}
use borrow.Author.Tests.{lt-ltb, le-ltb, eq-eqb}
use Rattle.book.specs.declared.header.Counts.{Counts}
use Rattle.book.specs.declared.statement.Statement.{Statement}
use Rattle.book.specs.Statement.{bare}
use Rattle.book.specs.Tree.{Concept, Atomic}
use Rattle.book.specs.Book.{Book, accepted, decode}
use Rattle.book.specs.Within.{Every, StatementWithin}
use Rattle.book.specs.Bytes.{Bytes, header_bytes, statement_bytes, statements_bytes}
use Rattle.book.proofs.Accepted.{accepted_statements, accepted_records}
use Rattle.small.specs.Statements.{small_counts, statement_at_lem}
use Rattle.small.specs.Books.{Small, statement_count, precedes, atomic_bytes, book_of, small_books, there, entry_at}
use Rattle.small.proofs.Order.{apart, apart_less, apart_front, apart_behind, less_self}
use Rattle.small.proofs.Statements.{statement_at_within, statement_at_bare, statement_at_apart, is_statement_at}
use Rattle.small.proofs.Read.{small_book_lem, book_accepted, accepted_laid}
use Rattle.small.proofs.Places.{Stands, empty, one, two, stands_entry, entry_stands}

-- the statements at a position are few and keep to the counts
stands_few : (p : ℕ) (xs : List Statement) → Stands p xs → length xs ≤ 2
stands_few p xs empty = omega arith
stands_few p xs (one l) = omega arith
stands_few p xs (two l m) = omega arith

stands_within : (n p : ℕ) (xs : List Statement) → Stands p xs → Every (StatementWithin (small_counts n)) xs
stands_within n p xs empty = tt
stands_within n p xs (one {i = i} l) = (statement_at_within n i l, tt)
stands_within n p xs (two {i = i} {j = j} l m) = (statement_at_within n i l, (statement_at_within n j m, tt))

stands_bare : (p : ℕ) (xs : List Statement) → Stands p xs → Every (λ x. x ≡ bare x.body) xs
stands_bare p xs empty = tt
stands_bare p xs (one {i = i} l) = (statement_at_bare i l, tt)
stands_bare p xs (two {i = i} {j = j} l m) = (statement_at_bare i l, (statement_at_bare j m, tt))

stands_accepted : (p : ℕ) (xs : List Statement) → Stands p xs → decode (book_of xs) ≡ accepted (small_book_lem xs)
stands_accepted p xs w = book_accepted xs (stands_few p xs w) (stands_within (length xs) p xs w)

-- EACH ENTRY is a small book
pub small_sound : (p : ℕ) (s : List ℕ) → entry_at small_books p ≡ there s → Small s
small_sound p s e =
    let w = entry_stands p s e in
    let xs = w.0 in
    record {
      book = small_book_lem xs;
      read = subst (λ (t : List ℕ). decode t ≡ accepted (small_book_lem xs)) w.2 (stands_accepted p xs w.1);
      counts = refl;
      few = stands_few p xs w.1;
      concepts = refl;
      unmarked = stands_bare p xs w.1;
    }

-- EVERY SMALL BOOK is an entry
places : (n : ℕ) (xs : List Statement) → length xs ≤ 2 → Every (StatementWithin (small_counts n)) xs → Every (λ x. x ≡ bare x.body) xs → (p : ℕ) × Stands p xs
places n [] l w z = (0, empty)
places n (x ∷ []) l w z =
    let r = is_statement_at n x w.0 z.0 in
    (r.0 + 1, subst (λ (y : Statement). Stands (r.0 + 1) (y ∷ [])) r.2 (one r.1))
places n (x ∷ y ∷ []) l w z =
    let r = is_statement_at n x w.0 z.0 in
    let t = is_statement_at n y w.1.0 z.1.0 in
    (74 + (r.0 * 73 + t.0), subst₂ (λ (a : Statement) (b : Statement). Stands (74 + (r.0 * 73 + t.0)) (a ∷ b ∷ [])) r.2 t.2 (two r.1 t.1))
places n (x ∷ y ∷ v ∷ xs) l w z = absurd (omega arith)

pub small_complete : (s : List ℕ) → Bytes s → Small s → (p : ℕ) × (entry_at small_books p ≡ there s)
small_complete s bytes small =
    let B = small.book in
    let xs = B.statements in
    let n = B.counts.statements in
    let k : length xs ≡ n = accepted_statements s B small.read in
    let same : B ≡ small_book_lem xs = same_book B (small_counts (length xs)) (Atomic 0 ∷ []) (small.counts ∙ ap small_counts (sym k)) small.concepts in
    let within : Every (StatementWithin (small_counts n)) xs = subst (λ (h : Counts). Every (StatementWithin h) xs) small.counts (accepted_records s B small.read) in
    let r = places n xs (omega (arith, small.few)) within small.unmarked in
    (r.0, stands_entry r.0 xs r.1 ∙ ap there (sym (accepted_laid s xs (small.read ∙ ap accepted same) bytes)))
  where
    same_book : (B : Book) (h : Counts) (ts : List Concept) → B.counts ≡ h → B.concepts ≡ ts → B ≡ record { counts = h; concepts = ts; statements = B.statements }
    same_book B h ts a b = ap₂ (λ (x : Counts) (y : List Concept). record { counts = x; concepts = y; statements = B.statements }) a b

-- THEY ASCEND: the bytes of books with as many statements
framed : (n : ℕ) (a b : List ℕ) → apart a b ≡ true → apart (header_bytes (small_counts n) ++ (atomic_bytes ++ a)) (header_bytes (small_counts n) ++ (atomic_bytes ++ b)) ≡ true
framed n a b t = apart_behind (header_bytes (small_counts n)) (atomic_bytes ++ a) (atomic_bytes ++ b) (apart_behind atomic_bytes a b t)

ones_apart : (i j : ℕ) → i < j → j < 73 → apart (book_of (statement_at_lem i ∷ [])) (book_of (statement_at_lem j ∷ [])) ≡ true
unfolding book_of statements_bytes
ones_apart i j a b = framed 1 (statement_bytes (statement_at_lem i) ++ []) (statement_bytes (statement_at_lem j) ++ []) (apart_front (statement_bytes (statement_at_lem i)) (statement_bytes (statement_at_lem j)) [] [] (statement_at_apart i j a b))

first_apart : (i j k m : ℕ) → i < k → k < 73 → apart (book_of (statement_at_lem i ∷ statement_at_lem j ∷ [])) (book_of (statement_at_lem k ∷ statement_at_lem m ∷ [])) ≡ true
unfolding book_of statements_bytes
first_apart i j k m a b =
    let x = statement_bytes (statement_at_lem j) ++ [] in
    let y = statement_bytes (statement_at_lem m) ++ [] in
    framed 2 (statement_bytes (statement_at_lem i) ++ x) (statement_bytes (statement_at_lem k) ++ y) (apart_front (statement_bytes (statement_at_lem i)) (statement_bytes (statement_at_lem k)) x y (statement_at_apart i k a b))

second_apart : (i j m : ℕ) → j < m → m < 73 → apart (book_of (statement_at_lem i ∷ statement_at_lem j ∷ [])) (book_of (statement_at_lem i ∷ statement_at_lem m ∷ [])) ≡ true
unfolding book_of statements_bytes
second_apart i j m a b =
    let c = statement_bytes (statement_at_lem i) in
    let x = statement_bytes (statement_at_lem j) ++ [] in
    let y = statement_bytes (statement_at_lem m) ++ [] in
    framed 2 (c ++ x) (c ++ y) (apart_behind c x y (apart_front (statement_bytes (statement_at_lem j)) (statement_bytes (statement_at_lem m)) [] [] (statement_at_apart j m a b)))

-- fewer statements, or as many and the bytes less
abbrev Before : List Statement → List Statement → Type 0
Before xs ys = (length xs < length ys) ⊎ ((length xs ≡ length ys) × (apart (book_of xs) (book_of ys) ≡ true))

in_order : (p q : ℕ) (xs ys : List Statement) → Stands p xs → Stands q ys → p < q → Before xs ys
in_order p q xs ys empty empty l = absurd (omega arith)
in_order p q xs ys empty (one a) l = inl (omega arith)
in_order p q xs ys empty (two a b) l = inl (omega arith)
in_order p q xs ys (one a) empty l = absurd (omega arith)
in_order p q xs ys (one {i = i} a) (one {i = j} b) l = inr (refl, ones_apart i j (omega arith) b)
in_order p q xs ys (one a) (two b c) l = inl (omega arith)
in_order p q xs ys (two a b) empty l = absurd (omega arith)
in_order p q xs ys (two a b) (one c) l = absurd (omega arith)
in_order p q xs ys (two {i = i} {j = j} a b) (two {i = k} {j = m} c d) l = inr (refl, go (ℕ_discrete i k))
  where
    go : Dec (i ≡ k) → apart (book_of (statement_at_lem i ∷ statement_at_lem j ∷ [])) (book_of (statement_at_lem k ∷ statement_at_lem m ∷ [])) ≡ true
    go (yes e) = subst (λ (x : ℕ). apart (book_of (statement_at_lem i ∷ statement_at_lem j ∷ [])) (book_of (statement_at_lem x ∷ statement_at_lem m ∷ [])) ≡ true) e (second_apart i j m (omega arith) d)
    go (no e) = first_apart i j k m (omega arith) c

before_precedes : (xs ys : List Statement) → decode (book_of xs) ≡ accepted (small_book_lem xs) → decode (book_of ys) ≡ accepted (small_book_lem ys) → Before xs ys → precedes (book_of xs) (book_of ys) ≡ true
unfolding precedes
before_precedes xs ys d e (inl l) = simp (d, e, lt-ltb _ _ l)
before_precedes xs ys d e (inr t) = let l : length ys ≤ length xs = omega (arith, t.0) in simp (d, e, le-ltb _ _ l, eq-eqb _ _ t.0, apart_less (book_of xs) (book_of ys) t.1)

-- EACH comes before all behind it
pub small_ascends : (p q : ℕ) (s t : List ℕ) → p < q → entry_at small_books p ≡ there s → entry_at small_books q ≡ there t → precedes s t ≡ true
small_ascends p q s t l a b =
    let v = entry_stands p s a in
    let w = entry_stands q t b in
    subst₂ (λ (x : List ℕ) (y : List ℕ). precedes x y ≡ true) v.2 w.2
    (before_precedes v.0 w.0 (stands_accepted p v.0 v.1) (stands_accepted q w.0 w.1) (in_order p q v.0 w.0 v.1 w.1 l))

-- so NONE STANDS TWICE
not_before : (p q : ℕ) (s : List ℕ) → entry_at small_books p ≡ there s → entry_at small_books q ≡ there s → p < q → ⊥
unfolding precedes
not_before p q s a b l =
    let n = statement_count (decode s) in
    let t = small_ascends p q s s l a b in
    let f : false ≡ true = simp (le-ltb n n (omega arith), less_self s, eq-eqb n n refl) at t in
    let o : ◌≡◌ {A = ℕ} 0 1 = cc in
    omega arith

pub small_once : (p q : ℕ) (s : List ℕ) → entry_at small_books p ≡ there s → entry_at small_books q ≡ there s → p ≡ q
small_once p q s a b = go (dec_lt p q) (dec_lt q p)
  where
    go : Dec (p < q) → Dec (q < p) → p ≡ q
    go (yes l) m = absurd (not_before p q s a b l)
    go (no l) (yes m) = absurd (not_before q p s b a m)
    go (no l) (no m) = omega arith
