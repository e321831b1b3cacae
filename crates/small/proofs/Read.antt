-- The book of some statements is accepted; and accepted bytes with these counts and that concept are laid out so.
use Prim.Native.Nat.{ℕ, ◌+◌, ◌≤◌}
use native.Mathlib.Omega.{arith}
use mathlib.Core.Path.{◌≡◌, refl, ap, ap₂, ◌∙◌, subst}
use mathlib.Core.List.{List, [], ◌∷◌, ◌++◌, append_assoc, append-nil}
use lib.ListN.{length, length-append}
use Rattle.book.specs.declared.header.Counts.{Counts}
use Rattle.book.specs.declared.concept.ConceptExpr.{ConceptExpr}
use Rattle.book.specs.declared.concept.ConceptExpr.TheVariants as expr
use Rattle.book.specs.declared.statement.Statement.{Statement}
use Rattle.book.specs.Read.{value, several}
use Rattle.book.specs.Header.{header, Limits}
use Rattle.book.specs.Concept.{concept}
use Rattle.book.specs.Statement.{statement}
use Rattle.book.specs.Tree.{Concept, Atomic, tree_of}
use Rattle.book.specs.Book.{Book, concepts, accepted, decode}
use Rattle.book.specs.Within.{Every, StatementWithin}
use Rattle.book.specs.Bytes.{Bytes, Has, header_bytes, statements_bytes}
use Rattle.book.proofs.Parsing.{came, same_value, forward_several}
use Rattle.book.proofs.header.Laws.{header_goes}
use Rattle.book.proofs.Bytes.{laid_then, header_read, header_laid, statements_read, statements_laid, atomic_laid, atomic_read, has_put, has_whole}
use Rattle.book.proofs.Local.{forward_concepts}
use Rattle.book.proofs.Accepted.{decode_of, forward_statement, Layout, layout}
use Rattle.small.specs.Statements.{small_counts}
use Rattle.small.specs.Books.{atomic_bytes, book_of}

-- what the bytes are read as
abbrev pub small_book_lem : List Statement → Book
small_book_lem xs = record { counts = small_counts (length xs); concepts = Atomic 0 ∷ []; statements = xs }

small_limits : (n : ℕ) → n ≤ 2 → Limits (small_counts n)
small_limits n l = record { classes_top = omega arith; roles_top = omega arith; individuals_top = omega arith; concepts_top = omega arith; statements_top = omega arith }

-- the list of one concept, from its record
concepts_one : (h : Counts) (s : List ℕ) (at e : ℕ) → concept h 0 s at ≡ value (expr.Atomic 0) e → concepts h 1 s at ≡ value (Atomic 0 ∷ []) e
unfolding concepts
concepts_one h s at e t = simp t

module _ (xs : List Statement) (few : length xs ≤ 2) (within : Every (StatementWithin (small_counts (length xs))) xs) where
  abbrev counts : Counts
  counts = small_counts (length xs)

  abbrev front : List ℕ
  front = header_bytes counts

  abbrev back : List ℕ
  back = statements_bytes xs

  abbrev whole : List ℕ
  whole = front ++ (atomic_bytes ++ back)

  abbrev at : ℕ
  at = length front

  whole_length : length whole ≡ at + 1 + 1 + 2 + length back
  whole_length = length-append front (atomic_bytes ++ back) ∙ omega arith

  whole_header : header whole 0 ≡ value counts at
  whole_header = header_laid whole counts (small_limits (length xs) few) 0 (has_put [] front (atomic_bytes ++ back) 0 refl) ∙ ap (value counts) (omega arith)

  whole_concepts : concepts counts 1 whole at ≡ value (Atomic 0 ∷ []) (at + 1 + 1 + 2)
  whole_concepts = concepts_one counts whole at (at + 1 + 1 + 2) (atomic_laid counts 0 whole at 0 (omega arith) (omega arith) (has_put front atomic_bytes back at refl))

  whole_statements : several (statement counts) (length xs) whole (at + 1 + 1 + 2) ≡ value xs (at + 1 + 1 + 2 + length back)
  whole_statements =
      let q : (front ++ atomic_bytes) ++ (back ++ []) ≡ whole = append_assoc front atomic_bytes (back ++ []) ∙ ap (λ (l : List ℕ). front ++ (atomic_bytes ++ l)) (append-nil back) in
      let l : length (front ++ atomic_bytes) ≡ at + 1 + 1 + 2 = length-append front atomic_bytes ∙ omega arith in
      statements_laid counts (small_limits (length xs) few) whole xs within (at + 1 + 1 + 2) (subst (λ (s : List ℕ). Has s (at + 1 + 1 + 2) back) q (has_put (front ++ atomic_bytes) back [] (at + 1 + 1 + 2) l))

  pub book_accepted : decode (book_of xs) ≡ accepted (small_book_lem xs)
  unfolding book_of
  book_accepted = decode_of whole (small_book_lem xs) at (at + 1 + 1 + 2) (at + 1 + 1 + 2 + length back) whole_header whole_concepts whole_statements (omega (arith, whole_length))

-- the record of the one concept, from the list
tree_atomic : (s : List ℕ) (ts : List Concept) (x : ConceptExpr) → tree_of s ts x ≡ Atomic 0 → x ≡ expr.Atomic 0
tree_atomic s ts expr.Top e = absurd (let o : ◌≡◌ {A = ℕ} 0 1 = cc in omega arith)
tree_atomic s ts expr.Bot e = absurd (let o : ◌≡◌ {A = ℕ} 0 1 = cc in omega arith)
tree_atomic s ts (expr.Atomic c) e = let q : c ≡ 0 = cc in ap expr.Atomic q
tree_atomic s ts (expr.Nominal i) e = absurd (let o : ◌≡◌ {A = ℕ} 0 1 = cc in omega arith)
tree_atomic s ts (expr.SelfRestriction r) e = absurd (let o : ◌≡◌ {A = ℕ} 0 1 = cc in omega arith)
tree_atomic s ts (expr.Not c) e = absurd (let o : ◌≡◌ {A = ℕ} 0 1 = cc in omega arith)
tree_atomic s ts (expr.And p) e = absurd (let o : ◌≡◌ {A = ℕ} 0 1 = cc in omega arith)
tree_atomic s ts (expr.Or p) e = absurd (let o : ◌≡◌ {A = ℕ} 0 1 = cc in omega arith)
tree_atomic s ts (expr.Some r c) e = absurd (let o : ◌≡◌ {A = ℕ} 0 1 = cc in omega arith)
tree_atomic s ts (expr.All r c) e = absurd (let o : ◌≡◌ {A = ℕ} 0 1 = cc in omega arith)
tree_atomic s ts (expr.Min n r c) e = absurd (let o : ◌≡◌ {A = ℕ} 0 1 = cc in omega arith)
tree_atomic s ts (expr.Max n r c) e = absurd (let o : ◌≡◌ {A = ℕ} 0 1 = cc in omega arith)

one_concept_lem : (h : Counts) (s : List ℕ) (at e : ℕ) → concepts h 1 s at ≡ value (Atomic 0 ∷ []) e → concept h 0 s at ≡ value (expr.Atomic 0) e
unfolding concepts
one_concept_lem h s at e t =
    let c = came (concept h 0 s at) _ (Atomic 0 ∷ []) e t in
    let q = same_value (tree_of s [] c.0 ∷ []) (Atomic 0 ∷ []) c.1 e c.3 in
    let head : tree_of s [] c.0 ≡ Atomic 0 = heads (tree_of s [] c.0) (Atomic 0) q.0 in
    c.2 ∙ ap₂ (λ (x : ConceptExpr) (n : ℕ). value x n) (tree_atomic s [] c.0 head) q.1
  where
    heads : (a b : Concept) → (a ∷ []) ≡ (b ∷ []) → a ≡ b
    heads a b e = cc

module _ (s : List ℕ) (xs : List Statement) (read : decode s ≡ accepted (small_book_lem xs)) where
  abbrev parts : Layout s (small_book_lem xs) read
  parts = layout s (small_book_lem xs) read

  pub accepted_laid : Bytes s → s ≡ book_of xs
  unfolding book_of
  accepted_laid bytes =
      let h = small_counts (length xs) in
      let l₁ = header_read s 0 h parts.at parts.head in
      let l₂ = atomic_read h 0 s parts.at 0 parts.start (one_concept_lem h s parts.at parts.start parts.trees) in
      let l₃ = statements_read s h parts.start (length xs) xs parts.end parts.list in
      let all = laid_then (header_bytes h) (atomic_bytes ++ statements_bytes xs) l₁ (laid_then atomic_bytes (statements_bytes xs) l₂ l₃) in
      let g₁ = header_goes s 0 h parts.at parts.head in
      let g₂ = forward_concepts h 1 s parts.at (Atomic 0 ∷ []) parts.start g₁.1 parts.trees in
      let g₃ = forward_several (statement h) (forward_statement h) (length xs) s parts.start xs parts.end g₂.1 parts.list in
      has_whole s (header_bytes h ++ (atomic_bytes ++ statements_bytes xs)) (omega (arith, all.ends, g₃.1, parts.ends)) (all.has bytes)
