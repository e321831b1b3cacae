-- An accepted book, with where its concept records and its statements start.
use Rattle.std.specs.Prelude.{ℕ, ◌≡◌, List}
use Rattle.book.specs.declared.header.Counts.{Counts}
use Rattle.book.specs.Book.{Book, accepted, decode, concept_offset}

pub record Located (s : List ℕ) (h : Counts) (front start : ℕ) : Type 0 where
  pub book : Book
  pub whole : decode s ≡ accepted book
  pub counts : book.counts ≡ h
  pub concepts_at_lem : front ≡ concept_offset s 0
  pub statements_at_lem : start ≡ concept_offset s book.counts.concepts
