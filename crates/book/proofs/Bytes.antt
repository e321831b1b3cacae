-- The laws of records as bytes: they are read back; and what is read from bytes is laid out so.
pub mod Entries
pub mod Marks
pub mod Heads
pub mod Stated
pub mod Atomics
pub use Rattle.book.proofs.Bytes.Entries.{has_front, has_back, has_append, has_at, has_whole, has_put, two_laid, byte_laid, field_laid, Low, Fit, fields_laid, Laid, laid_then, byte_read, fields_read}
pub use Rattle.book.proofs.Bytes.Heads.{header_read, header_laid}
pub use Rattle.book.proofs.Bytes.Stated.{field_of_role, statement_laid, statement_read, repeats_equal, repeats_self, statements_laid, bytes_snoc, statements_read}
pub use Rattle.book.proofs.Bytes.Atomics.{atomic_laid, atomic_read}
