-- How the leaves of concepts are collected (src/deep.rt).
use Rattle.std.specs.Prelude.{ℕ, ◌+◌, ◌*◌, ◌/◌, ◌<◌, ◌≤◌, ◌≡◌, false, ◌||◌, List, length, get_or, eqb}
use Rattle.book.specs.Field.{number_at_lem}
use Rattle.book.specs.Book.{Book}
use Rattle.book.specs.declared.concept.Parts.{Parts}
use Rattle.rows.specs.Row.{at}
use Rattle.rules.specs.Rule.{any, some}
use Rattle.rules.specs.Brought.{concept, leaves}
use Rattle.derivation.specs.Tables.{slot_tree, slot_of}

-- the concept that stands for all leaves of the slot of concept k
abbrev pub stands_for : List ℕ → List ℕ → ℕ → ℕ
stands_for L S k = get_or S (slot_of (get_or L k 0)) 0

-- of each of the first n concepts the slot has the number of one with the same slot
pub record Slotted (n : ℕ) (L S : List ℕ) : Type 0 where
  pub low : (k : ℕ) → k < n → stands_for L S k < n
  pub same : (k : ℕ) → k < n → slot_of (get_or L (stands_for L S k) 0) ≡ slot_of (get_or L k 0)

-- e is c with the first i * 512 members of row p in row d
pub record Wide (c : List ℕ) (d p i : ℕ) (e : List ℕ) : Type 0 where
  pub len : length e ≡ length c
  pub done : (j : ℕ) → j < i * 512 → j < 4096 → at e (d * 4096 + j) ≡ (at c (d * 4096 + j) || at c (p * 4096 + j))
  pub rest : (j : ℕ) → i * 512 ≤ j → j < 4096 → at e (d * 4096 + j) ≡ at c (d * 4096 + j)
  pub other : (j : ℕ) → (j / 4096 ≡ d → ⊥) → at e j ≡ at c j

-- e is c with the members of the rows of the first i parts in row d
pub record Parted (s : List ℕ) (p : Parts) (d i : ℕ) (c e : List ℕ) : Type 0 where
  pub len : length e ≡ length c
  pub all : (j : ℕ) → j < 4096 → at e (d * 4096 + j) ≡ (at c (d * 4096 + j) || any i (λ y. at c (number_at_lem s (p.at + 2 * y) * 4096 + j)))
  pub other : (j : ℕ) → (j / 4096 ≡ d → ⊥) → at e j ≡ at c j

-- the rows of the first m of n concepts have their leaves, and the others are blank
pub record Deep (B : Book) (n : ℕ) (L S : List ℕ) (m : ℕ) (D : List ℕ) : Type 0 where
  pub rows : (d k : ℕ) → d < m → k < n → at D (d * 4096 + stands_for L S k) ≡ some (leaves (concept B d)) (λ e. eqb (slot_tree e) (slot_of (get_or L k 0)))
  pub blank : (d j : ℕ) → m ≤ d → j < 4096 → at D (d * 4096 + j) ≡ false
