-- Demand 3 holds of every run on an accepted book, whatever the budget and the lists.
use Prim.Native.Nat.{ℕ, ◌-◌, ◌<◌}
use native.Mathlib.Omega.{arith}
use mathlib.Core.Path.{◌≡◌, ap, sym, ◌∙◌, subst}
use mathlib.Core.Bool.{true}
use mathlib.Core.List.{List, ◌++◌}
use mathlib.Core.Logic.{inl, inr}
use lib.ListN.{length, replicate}
use lib.Dec.{ltb}
use borrow.Author.Tests.{lt-ltb}
use Rattle.book.specs.Book.{Book, Decoded, accepted, decode}
use Rattle.book.specs.declared.role.Role.TheVariants.{Named}
use Rattle.rules.specs.Fact.{edge, type, pair, Two, Three}
use Rattle.rules.specs.Rule.{Set}
use Rattle.rules.specs.Meaning.{conclusions}
use Rattle.rules.specs.Same.{same_pair}
use Rattle.rules.specs.Lists.{types, edges, pairs, entries2, entries3}
use Rattle.rules.specs.Ends.{Finished, Outcome, outcome_of, outcome, Lists2, Lists3}
use Rattle.rules.specs.World.{World, leads, Fits, TypeTrue, EdgeTrue, PairTrue}
use Rattle.rules.specs.Plain.{Plain}
use Rattle.rules.specs.Demand.{Clashed, Decided, NoWorld, UnlistedFalse, Demand}
use Rattle.rules.proofs.Tests.{and_intro}
use Rattle.rules.proofs.Inside.{Inside, accepted_inside}
use Rattle.rules.proofs.Sound.{to_class, to_leads, conclusions_true}
use Rattle.rules.proofs.SoundClash.{no_clash, pair_true}
use Rattle.rules.proofs.Listed.{lists2_true, lists3_true, in_lists2, in_lists3, types_every, edges_every, pairs_every, in_types, in_edges, in_pairs}
use Rattle.rules.proofs.Complete.{canonical, canonical_fits, type_false, edge_false, pair_false}
use Rattle.rules.proofs.Ended.{IsFinished, ends_finished, ends_clash}

module _ (d : Decoded) (budget : ℕ) (ts es ps : List ℕ) (B : Book) (book : d ≡ accepted B) (inside : Inside B) where
  abbrev pub run : Outcome
  run = outcome_of d budget ts es ps

  abbrev S : Set
  S = conclusions B

  -- the lists of a finished run
  module _ (t e p : ℕ) (ended : run.end ≡ Finished t e p) where
    pub is : IsFinished ts es ps B S budget run
    is = ends_finished ts es ps d budget B book t e p ended

    -- the counts are those of the smallest sets
    same_end : Finished (length (types B S)) (length (edges B S)) (length (pairs B S)) ≡ Finished t e p
    same_end = sym (ap (λ (o : Outcome). o.end) is.lists) ∙ ended

    pub type_count_law : length (types B S) ≡ t
    type_count_law = let q = same_end in cc

    pub edge_count : length (edges B S) ≡ e
    edge_count = let q = same_end in cc

    pub pair_count_law : length (pairs B S) ≡ p
    pair_count_law = let q = same_end in cc

    -- a type is listed exactly if it is concluded; an edge and a pair likewise
    listed2 : (l : List Two) (n a b : ℕ) (m : List ℕ) → m ≡ entries2 l ++ replicate (n - length (entries2 l)) 0 → (k : ℕ) → length l ≡ k → Lists2 m k a b → Lists2 (entries2 l ++ replicate (n - length (entries2 l)) 0) (length l) a b
    listed2 l n a b m q k r x = subst (λ (y : ℕ). Lists2 (entries2 l ++ replicate (n - length (entries2 l)) 0) y a b) (sym r) (subst (λ (y : List ℕ). Lists2 y k a b) q x)

    listed3 : (l : List Three) (n r a b : ℕ) (m : List ℕ) → m ≡ entries3 l ++ replicate (n - length (entries3 l)) 0 → (k : ℕ) → length l ≡ k → Lists3 m k r a b → Lists3 (entries3 l ++ replicate (n - length (entries3 l)) 0) (length l) r a b
    listed3 l n r a b m q k c x = subst (λ (y : ℕ). Lists3 (entries3 l ++ replicate (n - length (entries3 l)) 0) y r a b) (sym c) (subst (λ (y : List ℕ). Lists3 y k r a b) q x)

    pub type_listed : (i c : ℕ) → i < B.counts.individuals → c < B.counts.classes → S (type i c) ≡ true → Lists2 run.types t i c
    type_listed i c k l q =
        subst (λ (x : List ℕ). Lists2 x t i c) (sym (ap (λ (o : Outcome). o.types) is.lists)) (subst (λ (x : ℕ). Lists2 (entries2 (types B S) ++ replicate (length ts - length (entries2 (types B S))) 0) x i c) type_count_law (in_lists2 (types B S) _ i c (in_types B S i c k l q)))

    pub edge_listed : (r a b : ℕ) → r < B.counts.roles → a < B.counts.individuals → b < B.counts.individuals → S (edge (Named r) a b) ≡ true → Lists3 run.edges e r a b
    edge_listed r a b j k l q =
        subst (λ (x : List ℕ). Lists3 x e r a b) (sym (ap (λ (o : Outcome). o.edges) is.lists)) (subst (λ (x : ℕ). Lists3 (entries3 (edges B S) ++ replicate (length es - length (entries3 (edges B S))) 0) x r a b) edge_count (in_lists3 (edges B S) _ r a b (in_edges B S r a b j k l q)))

    pub pair_listed : (i j : ℕ) → i < j → j < B.counts.individuals → S (pair i j) ≡ true → Lists2 run.pairs p i j
    unfolding same_pair
    pair_listed i j k l q =
        subst (λ (x : List ℕ). Lists2 x p i j) (sym (ap (λ (o : Outcome). o.pairs) is.lists)) (subst (λ (x : ℕ). Lists2 (entries2 (pairs B S) ++ replicate (length ps - length (entries2 (pairs B S))) 0) x i j) pair_count_law (in_lists2 (pairs B S) _ i j (in_pairs B S i j (omega arith) l (and_intro (ltb i j) (S (pair i j)) (lt-ltb i j k) q))))

    listed_types : (Q : ℕ → ℕ → Type 0) → ((i c : ℕ) → i < B.counts.individuals → c < B.counts.classes → S (type i c) ≡ true → Q i c) → (i c : ℕ) → Lists2 run.types t i c → Q i c
    listed_types Q f i c l = lists2_true Q (types B S) (types_every B S Q f) _ i c (listed2 (types B S) (length ts) i c run.types (ap (λ (o : Outcome). o.types) is.lists) t type_count_law l)

    listed_edges : (Q : ℕ → ℕ → ℕ → Type 0) → ((r a b : ℕ) → r < B.counts.roles → a < B.counts.individuals → b < B.counts.individuals → S (edge (Named r) a b) ≡ true → Q r a b) → (r a b : ℕ) → Lists3 run.edges e r a b → Q r a b
    listed_edges Q f r a b l = lists3_true Q (edges B S) (edges_every B S Q f) _ r a b (listed3 (edges B S) (length es) r a b run.edges (ap (λ (o : Outcome). o.edges) is.lists) e edge_count l)

    listed_pairs : (Q : ℕ → ℕ → Type 0) → ((i j : ℕ) → i < B.counts.individuals → j < B.counts.individuals → same_pair S i j ≡ true → Q i j) → (i j : ℕ) → Lists2 run.pairs p i j → Q i j
    listed_pairs Q f i j l = lists2_true Q (pairs B S) (pairs_every B S Q f) _ i j (listed2 (pairs B S) (length ps) i j run.pairs (ap (λ (o : Outcome). o.pairs) is.lists) p pair_count_law l)

    pub listed_type : (i c : ℕ) → Lists2 run.types t i c → S (type i c) ≡ true
    listed_type = listed_types (λ i c. S (type i c) ≡ true) (λ i c k l q. q)

    pub listed_edge : (r a b : ℕ) → Lists3 run.edges e r a b → S (edge (Named r) a b) ≡ true
    listed_edge = listed_edges (λ r a b. S (edge (Named r) a b) ≡ true) (λ r a b j k l q. q)

    -- every listed type, edge and same pair is true in every world that fits
    module _ (W : World) (fits : Fits W B) where
      types_true : (i c : ℕ) → Lists2 run.types t i c → TypeTrue W i c
      types_true = listed_types (TypeTrue W) (λ i c j k q. to_class W B inside i c j k (conclusions_true W B inside fits (type i c) q))

      edges_true : (r a b : ℕ) → Lists3 run.edges e r a b → EdgeTrue W r a b
      edges_true = listed_edges (EdgeTrue W) (λ r a b i j k q. unfold leads in to_leads W B inside (Named r) a b i j k (conclusions_true W B inside fits (edge (Named r) a b) q))

      pairs_true : (i j : ℕ) → Lists2 run.pairs p i j → PairTrue W i j
      pairs_true = listed_pairs (PairTrue W) (λ i j k m q. pair_true W B inside fits S (conclusions_true W B inside fits) i j m q)

  -- a clash leaves no world
  none_fits : Clashed run.end → NoWorld B
  none_fits (t, e, q) W fits = no_clash W B inside fits S (conclusions_true W B inside fits) (ends_clash ts es ps d budget B book t e q).stands

  -- on a plain book the canonical world fits after finished, and has no fact that is not listed
  plain_fits : Plain B → (t e p : ℕ) → run.end ≡ Finished t e p → Fits (canonical B inside) B
  plain_fits plain t e p q = canonical_fits B inside plain (is t e p q).calm

  unlisted : Plain B → (t e p : ℕ) → run.end ≡ Finished t e p → UnlistedFalse B run t e p
  unlisted plain t e p q =
      record {
        types = λ i c k l out. (canonical B inside, plain_fits plain t e p q, λ y. out (type_listed t e p q i c k l (type_false B inside i c k l y)));
        edges = λ r a b j k l out. (canonical B inside, plain_fits plain t e p q, λ y. out (edge_listed t e p q r a b j k l (edge_false B inside r a b j k l y)));
        pairs = λ i j k l out. (canonical B inside, plain_fits plain t e p q, λ y. out (pair_listed t e p q i j k l (pair_false B inside i j (omega arith) l y)));
      }

  clash_if_none : Plain B → Decided run.end → NoWorld B → Clashed run.end
  clash_if_none plain (inl (t, e, p, q)) none = absurd (none (canonical B inside) (plain_fits plain t e p q))
  clash_if_none plain (inr c) none = c

  -- DEMAND 3, of the book that a run speaks of
  pub demand_of : Demand B run
  demand_of =
      record {
        listed_true = λ t e p q W fits. record { types = types_true t e p q W fits; edges = edges_true t e p q W fits; pairs = pairs_true t e p q W fits };
        clash_none = none_fits;
        plain_clash = λ plain x. (none_fits, clash_if_none plain x);
        plain_unlisted = unlisted;
      }

-- and of a run on bytes
pub demand : (s : List ℕ) (budget : ℕ) (ts es ps : List ℕ) (B : Book) → decode s ≡ accepted B → Demand B (outcome s budget ts es ps)
demand s budget ts es ps B book = demand_of (decode s) budget ts es ps B book (accepted_inside s B book)
