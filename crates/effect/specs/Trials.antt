-- Worked examples of what a statement would do, as bytes. Every entry of the six lists is 9 at first.
use Rattle.std.specs.Prelude.{ℕ, ◌≡◌, List, [], ◌∷◌, ◌++◌}
use Rattle.book.specs.declared.role.Role.TheVariants.{Named}
use Rattle.rules.specs.Fact.{edge, type, pair}
use Rattle.rules.specs.Ends.{End, Refused, Spent, Clash, Finished, Outcome}
use Rattle.rules.specs.Bars.{nines, list_after}
use Rattle.effect.specs.Effect.{alone, further, Effect, effect}

-- the lengths of the present lists, or of those for the difference
pub record Room : Type 0 where
  pub types : ℕ
  pub edges : ℕ
  pub pairs : ℕ

abbrev room : ℕ → ℕ → ℕ → Room
room t e p = record { types = t; edges = e; pairs = p }

-- what is said of one of the two runs: the conclusions, the last drawn first, and the outcome
pub record Said : Type 0 where
  pub facts : List ℕ
  pub comes : Outcome

-- a call: the budget, both rooms, the book and the record, the conclusions of the book and of its copy, and the effect
pub record Trial : Type 0 where
  pub budget : ℕ
  pub present : Room
  pub other : Room
  pub book : List ℕ
  pub line : List ℕ
  pub facts : List ℕ
  pub further_facts : List ℕ
  pub expected : Effect

-- by the end and what is listed
abbrev said : Room → List ℕ → End → List ℕ → List ℕ → List ℕ → Said
said r facts end types edges pairs =
    record {
      facts = facts;
      comes = record { end = end; types = list_after end types r.types; edges = list_after end edges r.edges; pairs = list_after end pairs r.pairs };
    }

-- where the present run finishes
abbrev trial : ℕ → Room → Room → List ℕ → List ℕ → (Room → Said) → (Room → Said) → Trial
trial budget present other book line now then =
    record {
      budget = budget;
      present = present;
      other = other;
      book = book;
      line = line;
      facts = (now present).facts;
      further_facts = (then other).facts;
      expected = record { present = (now present).comes; copy = further (then other).comes.end; types = (then other).comes.types; edges = (then other).comes.edges; pairs = (then other).comes.pairs };
    }

-- where it doesn't: its end alone, and the other lists as they were
abbrev lone : ℕ → Room → Room → List ℕ → List ℕ → (Room → Said) → List ℕ → Trial
lone budget present other book line now further_facts =
    record {
      budget = budget;
      present = present;
      other = other;
      book = book;
      line = line;
      facts = (now present).facts;
      further_facts = further_facts;
      expected = record { present = (now present).comes; copy = alone; types = nines other.types; edges = nines other.edges; pairs = nines other.pairs };
    }

-- an end that leaves nothing listed, of a run with these conclusions
abbrev bare : List ℕ → End → Room → Said
bare facts end r = said r facts end [] [] []

-- what a row claims
abbrev pub Holds : Trial → Type 0
Holds x =
    effect x.book x.line x.budget (nines x.present.types) (nines x.present.edges) (nines x.present.pairs)
    (nines x.other.types) (nines x.other.edges) (nines x.other.pairs)
    ≡ x.expected

-- p leads 0 to 1 and 1 to 2
abbrev chain : List ℕ
chain =
    0x16 ∷ 0x01 ∷ 0x00 ∷ 0x03 ∷ 0x00 ∷ 0x02 ∷ 0x00 ∷ 0x0E ∷ 0xC1 ∷ 0x00 ∷ 0x00 ∷ 0x00 ∷ 0x00 ∷ 0x00 ∷ 0x01 ∷ 0x00 ∷ 0x0E ∷ 0xC1 ∷ 0x00 ∷ 0x00
    ∷ 0x00 ∷ 0x01 ∷ 0x00 ∷ 0x02 ∷ 0x00 ∷ []

-- p leads 0 to 1 and to 2; there is a 3
abbrev spread : List ℕ
spread =
    0x16 ∷ 0x01 ∷ 0x00 ∷ 0x04 ∷ 0x00 ∷ 0x02 ∷ 0x00 ∷ 0x0E ∷ 0xC1 ∷ 0x00 ∷ 0x00 ∷ 0x00 ∷ 0x00 ∷ 0x00 ∷ 0x01 ∷ 0x00 ∷ 0x0E ∷ 0xC1 ∷ 0x00 ∷ 0x00
    ∷ 0x00 ∷ 0x00 ∷ 0x00 ∷ 0x02 ∷ 0x00 ∷ []

-- and p is functional: 1 and 2 are a pair
abbrev fork : List ℕ
fork =
    0x16 ∷ 0x01 ∷ 0x00 ∷ 0x04 ∷ 0x00 ∷ 0x03 ∷ 0x00 ∷ 0x0E ∷ 0xC1 ∷ 0x00 ∷ 0x00 ∷ 0x00 ∷ 0x00 ∷ 0x00 ∷ 0x01 ∷ 0x00 ∷ 0x0E ∷ 0xC1 ∷ 0x00 ∷ 0x00
    ∷ 0x00 ∷ 0x00 ∷ 0x00 ∷ 0x02 ∷ 0x00 ∷ 0x08 ∷ 0x01 ∷ 0x00 ∷ 0x00 ∷ 0x00 ∷ []

-- 0 has class A, 1 has class B
abbrev plates : List ℕ
plates =
    0x1D ∷ 0x02 ∷ 0x00 ∷ 0x02 ∷ 0x00 ∷ 0x02 ∷ 0x00 ∷ 0x02 ∷ 0x00 ∷ 0x02 ∷ 0x01 ∷ 0x00 ∷ 0x00 ∷ 0x02 ∷ 0x01 ∷ 0x01 ∷ 0x00 ∷ 0x0D ∷ 0x50 ∷ 0x00
    ∷ 0x00 ∷ 0x00 ∷ 0x00 ∷ 0x00 ∷ 0x0D ∷ 0x50 ∷ 0x00 ∷ 0x01 ∷ 0x00 ∷ 0x01 ∷ 0x00 ∷ []

-- and no plate has both
abbrev apart : List ℕ
apart =
    0x1D ∷ 0x02 ∷ 0x00 ∷ 0x02 ∷ 0x00 ∷ 0x02 ∷ 0x00 ∷ 0x03 ∷ 0x00 ∷ 0x02 ∷ 0x01 ∷ 0x00 ∷ 0x00 ∷ 0x02 ∷ 0x01 ∷ 0x01 ∷ 0x00 ∷ 0x0D ∷ 0x50 ∷ 0x00
    ∷ 0x00 ∷ 0x00 ∷ 0x00 ∷ 0x00 ∷ 0x0D ∷ 0x50 ∷ 0x00 ∷ 0x01 ∷ 0x00 ∷ 0x01 ∷ 0x00 ∷ 0x03 ∷ 0x30 ∷ 0x00 ∷ 0x00 ∷ 0x00 ∷ 0x01 ∷ 0x00 ∷ []

-- and the plates are one
abbrev clashing : List ℕ
clashing =
    0x1D ∷ 0x02 ∷ 0x00 ∷ 0x02 ∷ 0x00 ∷ 0x02 ∷ 0x00 ∷ 0x04 ∷ 0x00 ∷ 0x02 ∷ 0x01 ∷ 0x00 ∷ 0x00 ∷ 0x02 ∷ 0x01 ∷ 0x01 ∷ 0x00 ∷ 0x0D ∷ 0x50 ∷ 0x00
    ∷ 0x00 ∷ 0x00 ∷ 0x00 ∷ 0x00 ∷ 0x0D ∷ 0x50 ∷ 0x00 ∷ 0x01 ∷ 0x00 ∷ 0x01 ∷ 0x00 ∷ 0x03 ∷ 0x30 ∷ 0x00 ∷ 0x00 ∷ 0x00 ∷ 0x01 ∷ 0x00 ∷ 0x0C ∷ 0xC0
    ∷ 0x00 ∷ 0x00 ∷ 0x00 ∷ 0x01 ∷ 0x00 ∷ []

-- records: p is transitive; p is functional; p leads 0 to 3; 0 and 1 are one
abbrev transitive : List ℕ
transitive = 0x06 ∷ 0x01 ∷ 0x00 ∷ 0x00 ∷ 0x00 ∷ []

abbrev functional : List ℕ
functional = 0x08 ∷ 0x01 ∷ 0x00 ∷ 0x00 ∷ 0x00 ∷ []

abbrev third : List ℕ
third = 0x0E ∷ 0xC1 ∷ 0x00 ∷ 0x00 ∷ 0x00 ∷ 0x00 ∷ 0x00 ∷ 0x03 ∷ 0x00 ∷ []

abbrev joining : List ℕ
joining = 0x0C ∷ 0xC0 ∷ 0x00 ∷ 0x00 ∷ 0x00 ∷ 0x01 ∷ 0x00 ∷ []

-- each individual is in one class with itself: of two, of three, of four
abbrev two : List ℕ
two = pair 1 1 ∷ pair 0 0 ∷ []

abbrev three : List ℕ
three = pair 2 2 ∷ two

abbrev four : List ℕ
four = pair 3 3 ∷ three

-- the facts of the chain, of the spread, of the fork and of the plates
abbrev steps : List ℕ
steps = edge (Named 0) 1 2 ∷ edge (Named 0) 0 1 ∷ three

abbrev spokes : List ℕ
spokes = edge (Named 0) 0 2 ∷ edge (Named 0) 0 1 ∷ four

abbrev prongs : List ℕ
prongs = pair 2 1 ∷ pair 1 2 ∷ spokes

abbrev marks : List ℕ
marks = type 1 1 ∷ type 0 0 ∷ two

-- of the fork with a third filler, and of the plates that became one
abbrev thrice : List ℕ
thrice = pair 3 2 ∷ pair 2 3 ∷ pair 3 1 ∷ pair 1 3 ∷ edge (Named 0) 0 3 ∷ prongs

abbrev merged : List ℕ
merged = type 1 0 ∷ type 0 1 ∷ pair 1 0 ∷ pair 0 1 ∷ marks

-- and what their runs come to
abbrev chained : Room → Said
chained r = said r steps (Finished 0 2 0) [] (0 ∷ 0 ∷ 1 ∷ 0 ∷ 1 ∷ 2 ∷ []) []

abbrev forked : Room → Said
forked r = said r prongs (Finished 0 2 1) [] (0 ∷ 0 ∷ 1 ∷ 0 ∷ 0 ∷ 2 ∷ []) (1 ∷ 2 ∷ [])

abbrev plated : Room → Said
plated r = said r marks (Finished 2 0 0) (0 ∷ 0 ∷ 1 ∷ 1 ∷ []) [] []

-- room for six facts and three pairs
abbrev six : Room
six = room 12 18 6

unfoldable pub trials : List Trial
trials =
    -- p transitive: p(0,2) is new
    (trial 6 six six chain transitive chained (λ r. said r (edge (Named 0) 0 2 ∷ steps) (Finished 0 1 0) [] (0 ∷ 0 ∷ 2 ∷ []) []))
    -- with a source and a period it acts all the same
    ∷ (trial 6 six six chain (0x06 ∷ 0x01 ∷ 0x07 ∷ 0x00 ∷ 0x00 ∷ 0x09 ∷ 0x00 ∷ 0x01 ∷ 0x00 ∷ 0x02 ∷ 0x00 ∷ []) chained (λ r. said r (edge (Named 0) 0 2 ∷ steps) (Finished 0 1 0) [] (0 ∷ 0 ∷ 2 ∷ []) []))
    -- 0 and 1 are one: four edges, and the pair
    ∷ (trial 6 six six chain joining chained (λ r. said r (edge (Named 0) 1 0 ∷ edge (Named 0) 0 2 ∷ edge (Named 0) 0 0 ∷ edge (Named 0) 1 1 ∷ pair 1 0 ∷ pair 0 1 ∷ steps) (Finished 0 4 1) [] (0 ∷ 0 ∷ 0 ∷ 0 ∷ 0 ∷ 2 ∷ 0 ∷ 1 ∷ 0 ∷ 0 ∷ 1 ∷ 1 ∷ []) (0 ∷ 1 ∷ [])))
    -- two plates that become one share their classes
    ∷ (trial 6 six six plates joining plated (λ r. said r merged (Finished 2 0 1) (0 ∷ 1 ∷ 1 ∷ 0 ∷ []) [] (0 ∷ 1 ∷ [])))
    -- A is under B
    ∷ (trial 6 six six plates (0x01 ∷ 0x30 ∷ 0x00 ∷ 0x00 ∷ 0x00 ∷ 0x01 ∷ 0x00 ∷ []) plated (λ r. said r (type 0 1 ∷ marks) (Finished 1 0 0) (0 ∷ 1 ∷ []) [] []))
    -- a statement that is there already: nothing is new
    ∷ (trial 6 six six chain (0x0E ∷ 0xC1 ∷ 0x00 ∷ 0x00 ∷ 0x00 ∷ 0x00 ∷ 0x00 ∷ 0x01 ∷ 0x00 ∷ []) chained (bare steps (Finished 0 0 0)))
    -- a pair may be new though no type and no edge is
    ∷ (trial 6 six six spread functional (λ r. said r spokes (Finished 0 2 0) [] (0 ∷ 0 ∷ 1 ∷ 0 ∷ 0 ∷ 2 ∷ []) []) (λ r. said r prongs (Finished 0 0 1) [] [] (1 ∷ 2 ∷ [])))
    -- a third filler: it makes pairs with the old ones, and the old pair is not new
    ∷ (trial 6 six six fork third forked (λ r. said r thrice (Finished 0 1 2) [] (0 ∷ 0 ∷ 3 ∷ []) (1 ∷ 3 ∷ 2 ∷ 3 ∷ [])))
    -- 11 counts all pairs of the copy: room for the two new ones is too short
    ∷ (trial 6 six (room 12 18 5) fork third forked (bare thrice (Refused 11)))
    -- the copy is spent
    ∷ (trial 2 (room 4 6 6) (room 4 6 6) chain transitive chained (bare (edge (Named 0) 0 2 ∷ steps) Spent))
    -- the copy clashes
    ∷ (trial 6 six six apart joining plated (bare merged (Clash 4 0)))
    -- it denies an edge of the present run: a clash
    ∷ (trial 6 six six chain (0x10 ∷ 0xC1 ∷ 0x00 ∷ 0x00 ∷ 0x00 ∷ 0x00 ∷ 0x00 ∷ 0x01 ∷ 0x00 ∷ []) chained (bare steps (Clash 0 2)))
    -- 2 of the lists for the difference, though the record is short
    ∷ (trial 6 six (room 12 17 6) chain (0x06 ∷ []) chained (bare [] (Refused 2)))
    -- 2 though 3 is due as well
    ∷ (trial 6 six (room 11 17 6) chain transitive chained (bare (edge (Named 0) 0 2 ∷ steps) (Refused 2)))
    -- 3 of them
    ∷ (trial 6 six (room 11 18 6) chain transitive chained (bare (edge (Named 0) 0 2 ∷ steps) (Refused 3)))
    -- a short record: 4
    ∷ (trial 6 six six chain (0x06 ∷ 0x01 ∷ 0x00 ∷ 0x00 ∷ []) chained (bare [] (Refused 4)))
    -- no record: 4
    ∷ (trial 6 six six chain [] chained (bare [] (Refused 4)))
    -- a long one: 10
    ∷ (trial 6 six six chain (0x06 ∷ 0x01 ∷ 0x00 ∷ 0x00 ∷ 0x00 ∷ 0x00 ∷ []) chained (bare [] (Refused 10)))
    -- two records: 10
    ∷ (trial 6 six six chain (transitive ++ transitive) chained (bare [] (Refused 10)))
    -- an unknown kind: 7
    ∷ (trial 6 six six chain (0x11 ∷ []) chained (bare [] (Refused 7)))
    -- a map that is none of its kind: 8
    ∷ (trial 6 six six chain (0x06 ∷ 0x30 ∷ 0x00 ∷ []) chained (bare [] (Refused 8)))
    -- a role out of range: 9
    ∷ (trial 6 six six chain (0x06 ∷ 0x01 ∷ 0x00 ∷ 0x02 ∷ 0x00 ∷ []) chained (bare [] (Refused 9)))
    -- a written source 0: 5
    ∷ (trial 6 six six chain (0x06 ∷ 0x01 ∷ 0x01 ∷ 0x00 ∷ 0x00 ∷ 0x00 ∷ 0x00 ∷ []) chained (bare [] (Refused 5)))
    -- a last day before the first: 16
    ∷ (trial 6 six six chain (0x06 ∷ 0x01 ∷ 0x06 ∷ 0x00 ∷ 0x00 ∷ 0x05 ∷ 0x00 ∷ 0x04 ∷ 0x00 ∷ []) chained (bare [] (Refused 16)))
    -- a record's fault though the copy of a good one would be spent
    ∷ (trial 2 (room 4 6 6) (room 4 6 6) chain (0x06 ∷ 0x01 ∷ 0x00 ∷ 0x02 ∷ 0x00 ∷ []) chained (bare [] (Refused 9)))
    -- a book without statements
    ∷ (trial 6 six six (0x06 ∷ 0x01 ∷ 0x00 ∷ 0x03 ∷ 0x00 ∷ []) (0x0E ∷ 0xC1 ∷ 0x00 ∷ 0x00 ∷ 0x00 ∷ 0x00 ∷ 0x00 ∷ 0x01 ∷ 0x00 ∷ []) (bare three (Finished 0 0 0)) (λ r. said r (edge (Named 0) 0 1 ∷ three) (Finished 0 1 0) [] (0 ∷ 0 ∷ 1 ∷ []) []))
    -- the empty book takes no statement: 9
    ∷ (trial 6 six six (0x00 ∷ []) transitive (bare [] (Finished 0 0 0)) (bare [] (Refused 9)))
    -- nothing is lent for the difference, nor needed: a budget of 0
    ∷ (trial 0 (room 0 0 0) (room 0 0 0) (0x06 ∷ 0x01 ∷ 0x00 ∷ 0x03 ∷ 0x00 ∷ []) transitive (bare three (Finished 0 0 0)) (bare three (Finished 0 0 0)))
    -- the present book has a fault: alone
    ∷ (lone 6 six six (0x16 ∷ 0x01 ∷ 0x00 ∷ 0x03 ∷ 0x00 ∷ 0x02 ∷ 0x00 ∷ 0x0E ∷ 0xC1 ∷ 0x00 ∷ 0x00 ∷ 0x00 ∷ 0x00 ∷ 0x00 ∷ 0x03 ∷ 0x00 ∷ 0x0E ∷ 0xC1 ∷ 0x00 ∷ 0x00 ∷ 0x00 ∷ 0x01 ∷ 0x00 ∷ 0x02 ∷ 0x00 ∷ []) transitive (bare [] (Refused 9)) [])
    -- no header: alone
    ∷ (lone 6 six six (0x20 ∷ []) transitive (bare [] (Refused 5)) [])
    -- the present run is spent: alone
    ∷ (lone 1 (room 2 3 6) (room 2 3 6) chain transitive (bare steps Spent) (edge (Named 0) 0 2 ∷ steps))
    -- the present run clashes: alone, whatever the record
    ∷ (lone 6 six six clashing [] (bare merged (Clash 4 0)) [])
    -- 11 of the present run: alone
    ∷ (lone 6 (room 12 18 1) six fork third (bare prongs (Refused 11)) thrice)
    -- 2 of the present lists: alone
    ∷ (lone 6 (room 12 17 6) (room 12 17 6) chain transitive (bare steps (Refused 2)) (edge (Named 0) 0 2 ∷ steps))
    -- 1: alone
    ∷ (lone 1000001 six six chain transitive (bare steps (Refused 1)) (edge (Named 0) 0 2 ∷ steps))
    ∷ []
