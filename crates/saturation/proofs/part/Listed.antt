-- After a run the named part is exactly what it lists.
use Prim.Native.Nat.{ℕ, ◌-◌, ◌*◌}
use mathlib.Core.Path.{◌≡◌, refl, ap, sym, ◌∙◌}
use mathlib.Core.List.{List, [], ◌∷◌, ◌++◌}
use lib.ListN.{length, take, replicate}
use Rattle.book.specs.Book.{Book, Decoded, accepted}
use Rattle.rules.specs.Meaning.{conclusions}
use Rattle.rules.specs.Lists.{edges, pairs, entries2, entries3, filled}
use Rattle.rules.specs.Ends.{Outcome, Finished, edge_part, pair_part, outcome_of}
use Rattle.rules.proofs.Ended.{ends_finished, length_entries2, length_entries3}
use Rattle.saturation.specs.Part.{part_of}
use Rattle.saturation.specs.declared.part.Named.TheVariants.{Edges, Pairs}

take_front : (l m : List ℕ) → take (length l) (l ++ m) ≡ l
take_front [] m = refl
take_front (x ∷ l) m = ap (λ (k : List ℕ). x ∷ k) (take_front l m)

-- the entries of a list that is filled up
front_filled : (l : List ℕ) (n k : ℕ) → k ≡ length l → take k (filled l n) ≡ l
front_filled l n k e = rw e (take_front l (replicate {0} {A = ℕ} (n - length l) 0))

-- of an accepted book, and of the book spoken of where a run names a reader or a day, whose run finished
module _ (d : Decoded) (budget : ℕ) (ts es ps : List ℕ) (B : Book) (book : d ≡ accepted B) (t e p : ℕ) (end : (outcome_of d budget ts es ps).end ≡ Finished t e p) where
  abbrev o : Outcome
  o = outcome_of d budget ts es ps

  pub named_edges : part_of Edges o.end o.edges o.pairs ≡ entries3 (edges B (conclusions B))
  named_edges =
      ap (λ (x : Outcome). edge_part x.end x.edges) (ends_finished ts es ps d budget B book t e p end).lists
      ∙ front_filled (entries3 (edges B (conclusions B))) (length es) (3 * length (edges B (conclusions B))) (sym (length_entries3 (edges B (conclusions B))))

  pub named_pairs : part_of Pairs o.end o.edges o.pairs ≡ entries2 (pairs B (conclusions B))
  named_pairs =
      ap (λ (x : Outcome). pair_part x.end x.pairs) (ends_finished ts es ps d budget B book t e p end).lists
      ∙ front_filled (entries2 (pairs B (conclusions B))) (length ps) (2 * length (pairs B (conclusions B))) (sym (length_entries2 (pairs B (conclusions B))))
