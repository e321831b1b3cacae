-- The tally that the loops carry is the number of different types and edges that the table of links keeps: from the start, and after each addition.
use Prim.Native.Nat.{ℕ, ◌+◌, ◌-◌, ◌*◌, ◌/◌, ◌%◌, ◌≤◌}
use native.Mathlib.Omega.{arith}
use mathlib.Core.Path.{◌≡◌, refl, ◌∙◌, subst}
use mathlib.Core.Bool.{Bool, true, false}
use mathlib.Core.List.{List, []}
use lib.ListN.{length}
use lib.Dec.{ltb}
use borrow.Author.Tests.{ltb-true, ltb-false}
use Rattle.book.specs.Read.{pick}
use Rattle.book.specs.Header.{Limits}
use Rattle.book.specs.Book.{Book}
use Rattle.book.specs.declared.header.Counts.{Counts}
use Rattle.rows.specs.Table.{base, leads, Can, Linked, none, then, Joined}
use Rattle.rules.specs.Fact.{type, set_of}
use Rattle.rules.specs.Lists.{used}
use Rattle.rules.proofs.Tests.{false_true, and_both}
use Rattle.rules.proofs.Facts.{edge_named}
use Rattle.rules.proofs.Conclusions.{Own, own_edge, own_type}
use Rattle.rules.proofs.Tally.{used_counted}
use Rattle.tables.specs.Open.{size_of}
use Rattle.tables.specs.Tables.{Blank}
use Rattle.rounds.specs.View.{edge_in_lem, type_in, facts, Kept}
use Rattle.rounds.proofs.Facts.{sized_of}
use Rattle.rounds.proofs.Start.{blank_kept}
use Rattle.rounds.proofs.Did.{links_tally}
use Rattle.verdict.specs.Listing.{types_of, all_edges_lem}
use Rattle.verdict.proofs.list.Views.{types_view, edges_view}

-- the facts of a table are over the book's own numbers
facts_own : (h : Counts) (t : List ℕ) (k : ℕ) → facts (size_of h) t k ≡ true → Own h k
unfolding facts set_of type
facts_own h t k = go (ltb k 16777216) (ltb k 16908288) refl
  where
    edge_own : edge_in_lem (size_of h) t (k / 262144) (k / 512 % 512) (k % 512) ≡ true → Own h k
    edge_own e =
        let r = and_both (ltb (2 * (k / 262144) + 2) (2 * h.roles + 2)) _ e in
        let a = and_both (ltb (k / 512 % 512) h.individuals) _ r.1 in
        let b = and_both (ltb (k % 512) h.individuals) _ a.1 in
        let i = ltb-true (2 * (k / 262144) + 2) (2 * h.roles + 2) r.0 in
        let is : (k / 262144 * 512 + k / 512 % 512) * 512 + k % 512 ≡ k = omega arith in
        subst (Own h) (edge_named (k / 262144) (k / 512 % 512) (k % 512) ∙ is)
        (own_edge (k / 262144) (k / 512 % 512) (k % 512) (omega (arith, i)) (ltb-true _ _ a.0) (ltb-true _ _ b.0))

    type_own : 16777216 ≤ k → type_in (size_of h) t ((k - 16777216) / 256) ((k - 16777216) % 256) ≡ true → Own h k
    type_own l e =
        let i = and_both (ltb ((k - 16777216) / 256) h.individuals) _ e in
        let c = and_both (ltb ((k - 16777216) % 256) h.classes) _ i.1 in
        let is : type ((k - 16777216) / 256) ((k - 16777216) % 256) ≡ k = omega (arith, l) in
        subst (Own h) is (own_type ((k - 16777216) / 256) ((k - 16777216) % 256) (ltb-true _ _ i.0) (ltb-true _ _ c.0))

    go : (b c : Bool) → ltb k 16777216 ≡ b
        → pick b (edge_in_lem (size_of h) t (k / 262144) (k / 512 % 512) (k % 512)) (pick c (type_in (size_of h) t ((k - 16777216) / 256) ((k - 16777216) % 256)) false) ≡ true → Own h k
    go true c q e = edge_own e
    go false true q e = type_own (ltb-false k 16777216 q) e
    go false false q e = false_true e

module _ (h : Counts) (limits : Limits h) where
  -- how many different types and edges a table keeps
  abbrev pub kept : List ℕ → ℕ
  kept t = length (types_of (size_of h) t) + length (all_edges_lem (size_of h) t)

  -- a book of these counts, for the laws on the facts of books
  abbrev some : Book
  some = record { counts = h; concepts = []; statements = [] }

  -- what the engine's functions promise of the tally they carry: it is that number
  pub tally_is : {t : List ℕ} {u : ℕ} → Kept (size_of h) t u → u ≡ kept t
  unfolding used
  tally_is {t} k =
      k.tally
      ∙ (used_counted some limits (facts (size_of h) t) (facts_own h t)
      ∙ rw (types_view h some refl limits.roles_top limits.individuals_top limits.classes_top t (facts (size_of h) t) (λ k l. refl), edges_view h some refl limits.roles_top limits.individuals_top limits.classes_top t (facts (size_of h) t) (λ k l. refl)) refl)

  -- FROM THE START: the tables are blank, and the tally is 0
  pub tally_from_the_start : {t : List ℕ} → (base (size_of h) ((size_of h).fields - 1) + h.classes) * 8 ≤ length t → Blank t → Kept (size_of h) t 0 × (0 ≡ kept t)
  tally_from_the_start room b =
      let k = blank_kept (sized_of h limits.roles_top limits.individuals_top limits.classes_top) room b in
      (k, tally_is k)

  -- AFTER EACH ADDITION: a link that was not there is one fact more, though it stands in both directions
  pub tally_after_each_addition : {s t : List ℕ} {u f a b : ℕ} → Kept (size_of h) s u → Can (size_of h) f a b → leads (size_of h) s f a b ≡ false → Linked (size_of h) s f a b t
      → Kept (size_of h) t (u + 1) × (u + 1 ≡ kept t)
  tally_after_each_addition {t = t} {u = u} {b = b} k c e l =
      let n : Kept (size_of h) t (u + 1) = record { table = l.table; tally = links_tally {m = λ y. true} (then b none k.table c refl e l) k.tally } in
      (n, tally_is n)

  -- and so after a row of them
  pub tally_after_a_row : {s t : List ℕ} {u v f a l n : ℕ} {m : ℕ → Bool} → Kept (size_of h) s u → Joined (size_of h) s f a m l n u t v → Kept (size_of h) t v × (v ≡ kept t)
  tally_after_a_row {t = t} {v = v} k j =
      let n : Kept (size_of h) t v = record { table = j.table; tally = links_tally j.links k.tally } in
      (n, tally_is n)
