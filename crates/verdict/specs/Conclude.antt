-- How complete tables end: the outcome that is read off them, and the outcome that an answer and three lists are.
use Rattle.std.specs.Prelude.{ℕ, ◌*◌, Bool, ◌||◌, ◌&&◌, List, length, get_or, ltb, eqb}
use Rattle.book.specs.Read.{pick}
use Rattle.book.specs.Refusal.{number}
use Rattle.rows.specs.declared.table.Size.{Size}
use Rattle.rules.specs.Fact.{Two, two}
use Rattle.rules.specs.Lists.{gather, only, entries2, entries3, filled}
use Rattle.rules.specs.Ends.{End, Finished, Clash, Spent, Refused, Outcome, cleared}
use Rattle.said.specs.declared.layout.Layout.{Layout}
use Rattle.verdict.specs.declared.end.End.{End as Answer}
use Rattle.verdict.specs.declared.end.End.TheVariants.{Finished as finished, Clash as clash, Spent as spent, Refused as refused}
use Rattle.verdict.specs.Verdict.{clash_in}
use Rattle.verdict.specs.Listing.{types_of, all_edges_lem}

-- the end that an answer names
abbrev pub end_of : Answer → End
end_of (finished t e p) = Finished t e p
end_of (clash t e) = Clash t e
end_of spent = Spent
end_of (refused n) = Refused (number n)

-- what a run came to: its answer, and the type, edge and pair list at exit
abbrev pub came : Answer → List ℕ → List ℕ → List ℕ → Outcome
came r ts es ps = record { end = end_of r; types = ts; edges = es; pairs = ps }

-- the same pairs of n individuals with the labels K: all that have one label, the lower number first, in the order of the list
unfoldable pub same_pairs : ℕ → List ℕ → List Two
same_pairs n K = gather n λ i. gather n λ j. only (ltb i j && eqb (get_or K i 0) (get_or K j 0)) (two i j)

abbrev pub listed : Size → List ℕ → List ℕ → List ℕ → List ℕ → List ℕ → Outcome
listed z t K ts es ps =
    record {
      end = Finished (length (types_of z t)) (length (all_edges_lem z t)) (length (same_pairs z.individuals K));
      types = filled (entries2 (types_of z t)) (length ts);
      edges = filled (entries3 (all_edges_lem z t)) (length es);
      pairs = filled (entries2 (same_pairs z.individuals K)) (length ps);
    }

-- the outcome of tables that are complete, within the budget: clash, of the tables or because a statement denies (d), refusal 11, or finished
abbrev pub finishing : Size → List ℕ → List ℕ → List ℕ → List ℕ → List ℕ → Outcome
finishing z t K ts es ps = pick (ltb (length ps) (2 * length (same_pairs z.individuals K))) (cleared ts es ps (Refused 11)) (listed z t K ts es ps)

unfoldable pub concluded : Layout → List ℕ → List ℕ → List ℕ → List ℕ → Bool → List ℕ → List ℕ → List ℕ → Outcome
concluded l t S L K d ts es ps =
    pick (clash_in l t S L || d) (cleared ts es ps (Clash (length (types_of l.size t)) (length (all_edges_lem l.size t)))) (finishing l.size t K ts es ps)
