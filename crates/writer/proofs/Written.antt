-- The theorems of the written book, of bytes.
use Prim.Native.Nat.{ℕ, ◌+◌, ◌≤◌}
use native.Mathlib.Omega.{arith}
use mathlib.Core.Path.{◌≡◌, ap, ◌∙◌}
use mathlib.Core.List.{List, ◌++◌}
use lib.ListN.{length}
use lib.Seq.{slice}
use Rattle.book.specs.declared.header.Counts.{Counts}
use Rattle.book.specs.declared.statement.Axiom.{Axiom}
use Rattle.book.specs.declared.statement.Statement.{Statement}
use Rattle.book.specs.Header.{counting}
use Rattle.book.specs.Statement.{statement, bodies}
use Rattle.book.specs.Within.{Every, StatementWithin}
use Rattle.book.specs.Bytes.{Bytes, header_bytes, statements_bytes}
use Rattle.book.specs.Book.{Book, axioms, with_statements, accepted, decode, concept_offset, concept_bytes, restated}
use Rattle.book.proofs.Parsing.{forward_several}
use Rattle.book.proofs.Bytes.{Laid, header_read, statements_read}
use Rattle.book.proofs.Accepted.{record_same, forward_statement, accepted_limits, accepted_statements, accepted_records}
use Rattle.book.proofs.Equal.{lay, first_offset, last_offset, records_go}
use Rattle.book.proofs.Restated.{restated_decodes, restated_again, restated_own}
use Rattle.rules.specs.Ends.{outcome_from, outcome_of, outcome}
use Rattle.rules.specs.Rule.{Set}
use Rattle.rules.specs.Meaning.{conclusions}
use Rattle.rules.specs.Demand.{Demand}
use Rattle.rules.proofs.Inside.{accepted_inside}
use Rattle.rules.proofs.Tests.{every_map}
use Rattle.rules.proofs.Demand.{demand}
use Rattle.writer.specs.Kept.{kept, Different, cleaned}
use Rattle.writer.specs.Written.{written_of, written}
use Rattle.writer.proofs.Repeats.{every_kept, kept_every, different_kept, kept_different, kept_length}
use Rattle.rules.proofs.Members.{every_bodies, bodies_every, conclusions_same, outcome_same}

module _ (s : List ℕ) (B : Book) (whole : decode s ≡ accepted B) where
  abbrev ks : List Statement
  ks = kept B.statements

  abbrev low : Counts
  low = counting B.counts (length ks)

  -- for the code: where the parts of the book stand
  pub offsets_go : (concept_offset s 0 ≤ concept_offset s B.counts.concepts) × (concept_offset s B.counts.concepts ≤ length s)
  offsets_go = rw (first_offset s B whole, last_offset s B whole) (records_go s B whole)

  pub header_stands : Laid s 0 (concept_offset s 0) (header_bytes B.counts)
  header_stands = rw (first_offset s B whole) (header_read s 0 B.counts (lay s B whole).at (lay s B whole).head)

  pub statements_stand : concept_offset s B.counts.concepts + length (statements_bytes B.statements) ≤ length s
  statements_stand =
      let y = lay s B whole in
      let read = statements_read s B.counts y.start B.counts.statements B.statements y.end y.list in
      let goes = forward_several (statement B.counts) (forward_statement B.counts) B.counts.statements s y.start B.statements y.end (records_go s B whole).1 y.list in
      omega (arith, last_offset s B whole, read.ends, goes.1)

  pub written_parts : written s ≡ header_bytes low ++ (slice (concept_offset s 0) (concept_offset s B.counts.concepts) s ++ statements_bytes ks)
  unfolding written written_of restated concept_bytes
  written_parts = simp whole

  written_is : written s ≡ restated s B ks
  unfolding written written_of
  written_is = simp whole

  few : length ks ≤ 4096
  few = omega (arith, kept_length B.statements, accepted_statements s B whole, (accepted_limits s B whole).statements_top)

  low_within : Every (StatementWithin low) ks
  low_within = every_map (StatementWithin B.counts) (StatementWithin low) (λ x i. record_same B.counts (length ks) x i) ks (every_kept (StatementWithin B.counts) B.statements (accepted_records s B whole))

  -- 1. The written book decodes to the book without repeats, its count lowered.
  pub written_decodes : decode (written s) ≡ accepted (cleaned B)
  unfolding cleaned
  written_decodes = rw written_is (restated_decodes s B whole ks few low_within)

  -- 2. A book with no repeats comes out byte for byte.
  pub written_same : Bytes s → Different B.statements → written s ≡ s
  written_same bytes d = written_is ∙ (ap (restated s B) (kept_different B.statements d) ∙ restated_own s B whole bytes)

  -- 3. Written twice, the second output equals the first.
  pub written_twice : written (written s) ≡ written s
  unfolding written written_of
  written_twice = simp (whole, restated_decodes s B whole ks few low_within, kept_different ks (different_kept B.statements)) (restated_again s B whole ks few low_within ks)

  run_same : (budget : ℕ) (ts es ps : List ℕ) → outcome_from (cleaned B) (conclusions (cleaned B)) budget ts es ps ≡ outcome_from B (conclusions B) budget ts es ps
  unfolding cleaned
  run_same budget ts es ps =
      let to : (P : Axiom → Type 0) → Every P (axioms B) → Every P (bodies ks) = (λ P h. bodies_every P ks (every_kept (λ x. P x.body) B.statements (every_bodies P B.statements h))) in
      let from : (P : Axiom → Type 0) → Every P (bodies ks) → Every P (axioms B) = (λ P h. bodies_every P B.statements (kept_every (λ x. P x.body) B.statements (every_bodies P ks h))) in
      let C = with_statements B ks in
      ap (λ (S : Set). outcome_from C S budget ts es ps) (conclusions_same B (length ks) ks to from (accepted_inside s B whole) (accepted_inside (restated s B ks) C (restated_decodes s B whole ks few low_within)))
      ∙ outcome_same B (length ks) ks to from (conclusions B) budget ts es ps

  -- 4. Every run of the written book ends as the original's does, lists included.
  pub written_runs : (budget : ℕ) (ts es ps : List ℕ) → outcome (written s) budget ts es ps ≡ outcome s budget ts es ps
  unfolding outcome_of
  written_runs budget ts es ps = simp (written_decodes, whole, run_same)

  -- Demand 3 carries over: what a run of the written book lists holds in every world that fits the original, and so on.
  pub written_demand : (budget : ℕ) (ts es ps : List ℕ) → Demand B (outcome (written s) budget ts es ps)
  written_demand budget ts es ps = rw (written_runs budget ts es ps) (demand s budget ts es ps B whole)
