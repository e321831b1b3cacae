-- What is listed of a table is what is listed of its facts, and what is listed by labels of its pairs.
use Prim.Native.Nat.{ℕ, ◌+◌, ◌-◌, ◌*◌, ◌/◌, ◌<◌, ◌≤◌}
use native.Mathlib.Omega.{arith}
use mathlib.Core.Path.{◌≡◌, ap, ◌∙◌}
use mathlib.Core.Bool.{Bool, ◌&&◌}
use mathlib.Core.List.{List}
use lib.Dec.{ltb}
use Rattle.book.specs.Book.{Book}
use Rattle.book.specs.declared.role.Role.TheVariants.{Named}
use Rattle.book.specs.declared.header.Counts.{Counts}
use Rattle.rules.specs.Fact.{edge, type, cap, two, three}
use Rattle.rules.proofs.Facts.{edge_lt, type_lt}
use Rattle.rules.specs.Rule.{Set}
use Rattle.rules.specs.Same.{same_pair}
use Rattle.rules.specs.Lists.{gather, only, types, edges, pairs}
use Rattle.tables.specs.Open.{size_of}
use Rattle.rounds.specs.View.{facts, held}
use Rattle.verdict.specs.Listing.{types_of, all_edges_lem}
use Rattle.verdict.specs.Conclude.{same_pairs}
use Rattle.rounds.proofs.Held.{held_pair}
use Rattle.rounds.proofs.Facts.{sized_of, facts_type, facts_edge}
use Rattle.verdict.proofs.list.Gathers.{gather_agree}

-- the same things for two tests that agree
pub only_agree : {A : Type 0} (n : ℕ) (f g : ℕ → Bool) (x : ℕ → A) → ((k : ℕ) → k < n → f k ≡ g k) → gather n (λ k. only (f k) (x k)) ≡ gather n (λ k. only (g k) (x k))
only_agree n f g x h = gather_agree n _ _ (λ k l. ap (λ (b : Bool). only b (x k)) (h k l))

module _ (h : Counts) (B : Book) (counts : B.counts ≡ h) (roles : h.roles ≤ 64) (individuals : h.individuals ≤ 512) (classes : h.classes ≤ 256) where
  -- of a set that has the types and edges of a table alone
  module _ (t : List ℕ) (S : Set) (low : (k : ℕ) → k < cap → S k ≡ facts (size_of h) t k) where
    -- the types
    pub types_view : types B S ≡ types_of (size_of h) t
    unfolding types types_of
    types_view = rw counts (gather_agree h.individuals _ _ λ i l. only_agree h.classes _ _ (two i) λ c m.
        low (type i c) (type_lt i c (omega arith) (omega arith)) ∙ facts_type (sized_of h roles individuals classes) t i c l m)

    -- the edges
    pub edges_view : edges B S ≡ all_edges_lem (size_of h) t
    unfolding edges all_edges_lem
    edges_view =
        let e : (2 * h.roles + 2) / 2 - 1 ≡ h.roles = omega arith in
        rw (counts, e) (gather_agree h.roles _ _ λ r k. gather_agree h.individuals _ _ λ a l. only_agree h.individuals _ _ (three r a) λ b m.
        low (edge (Named r) a b) (omega (arith, edge_lt (Named r) a b (omega arith) (omega arith) (omega arith))) ∙ facts_edge (sized_of h roles individuals classes) t r a b (omega arith) l m)

  -- the pairs, by labels
  pub pairs_view : (K t : List ℕ) → pairs B (held (size_of h) K t) ≡ same_pairs h.individuals K
  unfolding pairs same_pairs same_pair
  pairs_view K t = rw counts (gather_agree h.individuals _ _ λ i l. only_agree h.individuals _ _ (two i) λ j m.
      ap (λ (b : Bool). ltb i j && b) (held_pair (size_of h) K individuals t i j l m))
