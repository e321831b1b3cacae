-- The statements: there are 73, they keep to the counts, their bytes ascend, and every statement that keeps to the counts and has neither source nor days is one of them.
use Prim.Native.Nat.{ℕ, zero, suc, ◌≤◌, ◌<◌}
use native.Mathlib.Omega.{arith}
use mathlib.Core.Path.{◌≡◌, refl, sym, ap, ◌∙◌, subst}
use mathlib.Core.Bool.{Bool, true, false, ◌&&◌, ◌||◌}
use mathlib.Core.List.{List, [], ◌∷◌}
use lib.ListN.{length, get_or}
use lib.Dec.{ltb}
use borrow.Author.Tests.{ltb-true}
use Rattle.book.specs.declared.statement.Axiom.{Axiom}
use Rattle.book.specs.declared.statement.Statement.{Statement}
use Rattle.book.specs.declared.role.Role.{Role}
use Rattle.book.specs.declared.role.Role.TheVariants.{Named, Inverse}
use Rattle.book.specs.declared.statement.SubRolePath.TheVariants.{One, Two, Three}
use Rattle.book.specs.declared.statement.Axiom.TheVariants.{SubClassOf, EquivalentClasses, DisjointClasses, InverseObjectProperties, SubObjectPropertyOf, TransitiveRole, SymmetricRole, FunctionalRole, InverseFunctionalRole, ObjectPropertyDomain, ObjectPropertyRange, SameIndividual, ClassAssertion, ObjectPropertyAssertion, DifferentIndividuals, NegativeObjectPropertyAssertion}
use Rattle.book.specs.Within.{Within, StatementWithin}
use Rattle.book.specs.Read.{Read, value, refusal}
use Rattle.book.specs.Role.{role_of_lem, role_id}
use Rattle.book.specs.Field.{byte, two_bytes_lem, field, fields_from, fields}
use Rattle.book.specs.Table.{statement_allows_lem}
use Rattle.book.specs.Statement.{statement_start_lem, bare, statement_end_lem, statement_rest_lem, statement, axiom_of_lem, path_of_lem}
use Rattle.book.specs.Bytes.{statement_bytes, repeats}
use Rattle.book.proofs.statement.Laws.{statement_within}
use Rattle.book.proofs.Bytes.{repeats_equal}
use Rattle.small.specs.Statements.{small_counts, small_statements, spare, statement_at_lem}
use Rattle.small.specs.Laying.{field_bytes, row_of, row_bytes}
use Rattle.small.proofs.Order.{apart}

pub statements_count : length small_statements ≡ 73
unfolding small_statements axiom_of_lem path_of_lem role_of_lem
statements_count = refl

-- tests that are computed, and what they say of each member
and_true : (a b : Bool) → (a && b) ≡ true → (a ≡ true) × (b ≡ true)
and_true true b e = (refl, e)
and_true false b e = absurd (let o : ◌≡◌ {A = ℕ} 0 1 = cc in omega arith)

false_true : {A : Type 0} → false ≡ true → A
false_true e = absurd (let o : ◌≡◌ {A = ℕ} 0 1 = cc in omega arith)

abbrev all : {A : Type 0} → List A → (A → Bool) → Bool
all [] f = true
all (x ∷ xs) f = f x && all xs f

all_at : {A : Type 0} (f : A → Bool) (d : A) (xs : List A) (i : ℕ) → all xs f ≡ true → i < length xs → f (get_or xs i d) ≡ true
all_at f d [] i t l = absurd (omega arith)
all_at f d (x ∷ xs) zero t l = (and_true (f x) (all xs f) t).0
all_at f d (x ∷ xs) (suc i) t l = all_at f d xs i (and_true (f x) (all xs f) t).1 (omega arith)

-- each is read back over these counts, so it keeps to them
abbrev reads_as : Statement → Read Statement → Bool
reads_as x (value y e) = repeats x y
reads_as x (refusal n) = false

abbrev reads : ℕ → Statement → Bool
reads n x = reads_as x (statement (small_counts n) (statement_bytes x) 0)

all_read : (n : ℕ) → all small_statements (reads n) ≡ true
unfolding small_statements axiom_of_lem path_of_lem role_of_lem statement_bytes repeats statement statement_start_lem statement_end_lem statement_rest_lem statement_allows_lem fields fields_from field byte two_bytes_lem
all_read n = refl

read_within : (n : ℕ) (x : Statement) (r : Read Statement) → statement (small_counts n) (statement_bytes x) 0 ≡ r → reads_as x r ≡ true → StatementWithin (small_counts n) x
read_within n x (value y e) q t = subst (StatementWithin (small_counts n)) (sym (repeats_equal x y t)) (statement_within (statement_bytes x) (small_counts n) 0 y e q)
read_within n x (refusal m) q t = false_true t

pub statement_at_within : (n i : ℕ) → i < 73 → StatementWithin (small_counts n) (statement_at_lem i)
statement_at_within n i l =
    let x = statement_at_lem i in
    read_within n x (statement (small_counts n) (statement_bytes x) 0) refl (all_at (reads n) spare small_statements i (all_read n) (omega (arith, statements_count)))

-- none has a source or days
all_bare : all small_statements (λ x. repeats x (bare x.body)) ≡ true
unfolding small_statements axiom_of_lem path_of_lem role_of_lem repeats
all_bare = refl

pub statement_at_bare : (i : ℕ) → i < 73 → statement_at_lem i ≡ bare (statement_at_lem i).body
statement_at_bare i l = repeats_equal (statement_at_lem i) (bare (statement_at_lem i).body) (all_at (λ x. repeats x (bare x.body)) spare small_statements i all_bare (omega (arith, statements_count)))

-- the bytes of each
abbrev pub bytes_each : List Statement → List (List ℕ)
bytes_each [] = []
bytes_each (x ∷ xs) = statement_bytes x ∷ bytes_each xs

pub bytes_at : (d : Statement) (xs : List Statement) (i : ℕ) → i < length xs → get_or (bytes_each xs) i [] ≡ statement_bytes (get_or xs i d)
bytes_at d [] i l = absurd (omega arith)
bytes_at d (x ∷ xs) zero l = refl
bytes_at d (x ∷ xs) (suc i) l = bytes_at d xs i (omega arith)

bytes_length : (xs : List Statement) → length (bytes_each xs) ≡ length xs
bytes_length [] = refl
bytes_length (x ∷ xs) = ap suc (bytes_length xs)

-- no statement is longer than 11 bytes
short : all (bytes_each small_statements) (λ s. ltb (length s) 12) ≡ true
unfolding small_statements axiom_of_lem path_of_lem role_of_lem statement_bytes
short = refl

-- each is below all behind it
abbrev ascends : List (List ℕ) → Bool
ascends [] = true
ascends (x ∷ xs) = all xs (apart x) && ascends xs

ascending : ascends (bytes_each small_statements) ≡ true
unfolding small_statements axiom_of_lem path_of_lem role_of_lem statement_bytes
ascending = refl

ascends_at : (l : List (List ℕ)) (i j : ℕ) → ascends l ≡ true → i < j → j < length l → apart (get_or l i []) (get_or l j []) ≡ true
ascends_at [] i j t a b = absurd (omega arith)
ascends_at (x ∷ l) zero zero t a b = absurd (omega arith)
ascends_at (x ∷ l) zero (suc j) t a b = all_at (apart x) [] l j (and_true (all l (apart x)) (ascends l) t).0 (omega arith)
ascends_at (x ∷ l) (suc i) zero t a b = absurd (omega arith)
ascends_at (x ∷ l) (suc i) (suc j) t a b = ascends_at l i j (and_true (all l (apart x)) (ascends l) t).1 (omega arith) (omega arith)

module _ (i : ℕ) (l : i < 73) where
  inside : i < length small_statements
  inside = omega (arith, statements_count)

  at : get_or (bytes_each small_statements) i [] ≡ statement_bytes (statement_at_lem i)
  at = bytes_at spare small_statements i inside

  pub statement_at_short : length (statement_bytes (statement_at_lem i)) ≤ 11
  statement_at_short =
      let t = all_at (λ s. ltb (length s) 12) [] (bytes_each small_statements) i short (omega (arith, inside, bytes_length small_statements)) in
      omega (arith, ltb-true (length (statement_bytes (statement_at_lem i))) 12 (rw at at t))

pub statement_at_apart : (i j : ℕ) → i < j → j < 73 → apart (statement_bytes (statement_at_lem i)) (statement_bytes (statement_at_lem j)) ≡ true
statement_at_apart i j a b =
    let t = ascends_at (bytes_each small_statements) i j ascending a (omega (arith, inside j b, bytes_length small_statements)) in
    rw (at i (omega arith), at j b) at t

-- the table: the rows, and that each stands for its statement
abbrev pub rows : List Statement → List ℕ
rows [] = []
rows (x ∷ xs) = row_of x ∷ rows xs

pub row_at_lem : (d : Statement) (xs : List Statement) (i : ℕ) → i < length xs → get_or (rows xs) i 0 ≡ row_of (get_or xs i d)
row_at_lem d [] i l = absurd (omega arith)
row_at_lem d (x ∷ xs) zero l = refl
row_at_lem d (x ∷ xs) (suc i) l = row_at_lem d xs i (omega arith)

abbrev rows_bytes : List Statement → List (List ℕ)
rows_bytes [] = []
rows_bytes (x ∷ xs) = row_bytes (row_of x) ∷ rows_bytes xs

rows_bytes_lem : rows_bytes small_statements ≡ bytes_each small_statements
unfolding small_statements axiom_of_lem path_of_lem role_of_lem statement_bytes row_of row_bytes field_bytes
rows_bytes_lem = refl

row_bytes_at : (d : Statement) (xs : List Statement) (i : ℕ) → i < length xs → get_or (rows_bytes xs) i [] ≡ row_bytes (row_of (get_or xs i d))
row_bytes_at d [] i l = absurd (omega arith)
row_bytes_at d (x ∷ xs) zero l = refl
row_bytes_at d (x ∷ xs) (suc i) l = row_bytes_at d xs i (omega arith)

pub row_bytes_lem : (i : ℕ) → i < 73 → row_bytes (row_of (statement_at_lem i)) ≡ statement_bytes (statement_at_lem i)
row_bytes_lem i l = sym (row_bytes_at spare small_statements i (inside i l)) ∙ ap (λ (b : List (List ℕ)). get_or b i []) rows_bytes_lem ∙ at i l

-- every statement that keeps to these counts is one of them: a role is the named one or its inverse, an individual 0 or 1, the concept 0
abbrev has : List Statement → Statement → Bool
has [] x = false
has (y ∷ ys) x = repeats y x || has ys x

found : (d : Statement) (ys : List Statement) (x : Statement) → has ys x ≡ true → (i : ℕ) × (i < length ys) × (get_or ys i d ≡ x)
found d [] x t = false_true t
found d (y ∷ ys) x t = go (repeats y x) refl t (found d ys x)
  where
    go : (b : Bool) → repeats y x ≡ b → (b || has ys x) ≡ true → (has ys x ≡ true → (i : ℕ) × (i < length ys) × (get_or ys i d ≡ x)) → (i : ℕ) × (i < suc (length ys)) × (get_or (y ∷ ys) i d ≡ x)
    go true e u ih = (0, omega arith, repeats_equal y x e)
    go false e u ih = let r = ih u in (suc r.0, omega (arith, r.1), r.2)

abbrev Member : Axiom → Type 0
Member x = has small_statements (bare x) ≡ true

one_role : (P : Role → Type 0) → P (Named 0) → P (Inverse 0) → (r : Role) → role_id r < 1 → P r
one_role P a b (Named r) l = let q : 0 ≡ r = omega arith in subst (λ (x : ℕ). P (Named x)) q a
one_role P a b (Inverse r) l = let q : 0 ≡ r = omega arith in subst (λ (x : ℕ). P (Inverse x)) q b

one_concept_lem : (P : ℕ → Type 0) → P 0 → (c : ℕ) → c < 1 → P c
one_concept_lem P a c l = let q : 0 ≡ c = omega arith in subst P q a

two_individuals : (P : ℕ → Type 0) → P 0 → P 1 → (c : ℕ) → c < 2 → P c
two_individuals P a b zero l = a
two_individuals P a b (suc zero) l = b
two_individuals P a b (suc (suc c)) l = absurd (omega arith)

member : (n : ℕ) (x : Axiom) → Within (small_counts n) x → Member x
unfolding small_statements axiom_of_lem path_of_lem role_of_lem repeats
member n (SubClassOf c d) w = one_concept_lem (λ c. Member (SubClassOf c d)) (one_concept_lem (λ d. Member (SubClassOf 0 d)) refl d w.1) c w.0
member n (EquivalentClasses c d) w = one_concept_lem (λ c. Member (EquivalentClasses c d)) (one_concept_lem (λ d. Member (EquivalentClasses 0 d)) refl d w.1) c w.0
member n (DisjointClasses c d) w = one_concept_lem (λ c. Member (DisjointClasses c d)) (one_concept_lem (λ d. Member (DisjointClasses 0 d)) refl d w.1) c w.0
member n (InverseObjectProperties r s) w = one_role (λ r. Member (InverseObjectProperties r s)) (one_role (λ s. Member (InverseObjectProperties (Named 0) s)) refl refl s w.1) (one_role (λ s. Member (InverseObjectProperties (Inverse 0) s)) refl refl s w.1) r w.0
member n (SubObjectPropertyOf (One r) t) w = one_role (λ r. Member (SubObjectPropertyOf (One r) t)) (one_role (λ t. Member (SubObjectPropertyOf (One (Named 0)) t)) refl refl t w.1) (one_role (λ t. Member (SubObjectPropertyOf (One (Inverse 0)) t)) refl refl t w.1) r w.0
member n (SubObjectPropertyOf (Two r s) t) w =
    one_role (λ r. Member (SubObjectPropertyOf (Two r s) t)) (two (Named 0) refl refl refl refl) (two (Inverse 0) refl refl refl refl) r w.0.0
  where
    two : (r : Role) → Member (SubObjectPropertyOf (Two r (Named 0)) (Named 0)) → Member (SubObjectPropertyOf (Two r (Named 0)) (Inverse 0)) → Member (SubObjectPropertyOf (Two r (Inverse 0)) (Named 0)) → Member (SubObjectPropertyOf (Two r (Inverse 0)) (Inverse 0)) → Member (SubObjectPropertyOf (Two r s) t)
    two r a b c d = one_role (λ s. Member (SubObjectPropertyOf (Two r s) t)) (one_role (λ t. Member (SubObjectPropertyOf (Two r (Named 0)) t)) a b t w.1) (one_role (λ t. Member (SubObjectPropertyOf (Two r (Inverse 0)) t)) c d t w.1) s w.0.1
member n (SubObjectPropertyOf (Three r s u) t) w =
    one_role (λ r. Member (SubObjectPropertyOf (Three r s u) t))
    (one_role (λ s. Member (SubObjectPropertyOf (Three (Named 0) s u) t)) (two (Named 0) (Named 0) refl refl refl refl) (two (Named 0) (Inverse 0) refl refl refl refl) s w.0.1)
    (one_role (λ s. Member (SubObjectPropertyOf (Three (Inverse 0) s u) t)) (two (Inverse 0) (Named 0) refl refl refl refl) (two (Inverse 0) (Inverse 0) refl refl refl refl) s w.0.1) r w.0.0
  where
    two : (r s : Role) → Member (SubObjectPropertyOf (Three r s (Named 0)) (Named 0)) → Member (SubObjectPropertyOf (Three r s (Named 0)) (Inverse 0)) → Member (SubObjectPropertyOf (Three r s (Inverse 0)) (Named 0)) → Member (SubObjectPropertyOf (Three r s (Inverse 0)) (Inverse 0)) → Member (SubObjectPropertyOf (Three r s u) t)
    two r s a b c d = one_role (λ u. Member (SubObjectPropertyOf (Three r s u) t)) (one_role (λ t. Member (SubObjectPropertyOf (Three r s (Named 0)) t)) a b t w.1) (one_role (λ t. Member (SubObjectPropertyOf (Three r s (Inverse 0)) t)) c d t w.1) u w.0.2
member n (TransitiveRole r) w = one_role (λ r. Member (TransitiveRole r)) refl refl r w
member n (SymmetricRole r) w = one_role (λ r. Member (SymmetricRole r)) refl refl r w
member n (FunctionalRole r) w = one_role (λ r. Member (FunctionalRole r)) refl refl r w
member n (InverseFunctionalRole r) w = one_role (λ r. Member (InverseFunctionalRole r)) refl refl r w
member n (ObjectPropertyDomain r c) w = one_concept_lem (λ c. Member (ObjectPropertyDomain r c)) (one_role (λ r. Member (ObjectPropertyDomain r 0)) refl refl r w.0) c w.1
member n (ObjectPropertyRange r c) w = one_concept_lem (λ c. Member (ObjectPropertyRange r c)) (one_role (λ r. Member (ObjectPropertyRange r 0)) refl refl r w.0) c w.1
member n (SameIndividual i j) w = two_individuals (λ i. Member (SameIndividual i j)) (two_individuals (λ j. Member (SameIndividual 0 j)) refl refl j w.1) (two_individuals (λ j. Member (SameIndividual 1 j)) refl refl j w.1) i w.0
member n (ClassAssertion c i) w = one_concept_lem (λ c. Member (ClassAssertion c i)) (two_individuals (λ i. Member (ClassAssertion 0 i)) refl refl i w.1) c w.0
member n (ObjectPropertyAssertion r i j) w =
    one_role (λ r. Member (ObjectPropertyAssertion r i j)) (two (Named 0) refl refl refl refl) (two (Inverse 0) refl refl refl refl) r w.0
  where
    two : (r : Role) → Member (ObjectPropertyAssertion r 0 0) → Member (ObjectPropertyAssertion r 0 1) → Member (ObjectPropertyAssertion r 1 0) → Member (ObjectPropertyAssertion r 1 1) → Member (ObjectPropertyAssertion r i j)
    two r a b c d = two_individuals (λ i. Member (ObjectPropertyAssertion r i j)) (two_individuals (λ j. Member (ObjectPropertyAssertion r 0 j)) a b j w.2) (two_individuals (λ j. Member (ObjectPropertyAssertion r 1 j)) c d j w.2) i w.1
member n (DifferentIndividuals i j) w = two_individuals (λ i. Member (DifferentIndividuals i j)) (two_individuals (λ j. Member (DifferentIndividuals 0 j)) refl refl j w.1) (two_individuals (λ j. Member (DifferentIndividuals 1 j)) refl refl j w.1) i w.0
member n (NegativeObjectPropertyAssertion r i j) w =
    one_role (λ r. Member (NegativeObjectPropertyAssertion r i j)) (two (Named 0) refl refl refl refl) (two (Inverse 0) refl refl refl refl) r w.0
  where
    two : (r : Role) → Member (NegativeObjectPropertyAssertion r 0 0) → Member (NegativeObjectPropertyAssertion r 0 1) → Member (NegativeObjectPropertyAssertion r 1 0) → Member (NegativeObjectPropertyAssertion r 1 1) → Member (NegativeObjectPropertyAssertion r i j)
    two r a b c d = two_individuals (λ i. Member (NegativeObjectPropertyAssertion r i j)) (two_individuals (λ j. Member (NegativeObjectPropertyAssertion r 0 j)) a b j w.2) (two_individuals (λ j. Member (NegativeObjectPropertyAssertion r 1 j)) c d j w.2) i w.1

pub is_statement_at : (n : ℕ) (x : Statement) → StatementWithin (small_counts n) x → x ≡ bare x.body → (i : ℕ) × (i < 73) × (statement_at_lem i ≡ x)
is_statement_at n x w e =
    let r = found spare small_statements (bare x.body) (member n x.body w.body) in
    (r.0, omega (arith, r.1, statements_count), r.2 ∙ sym e)
