-- `blake2s::blocks::serialised` meets its contract: the bytes of each word are the library's.
use Rattle.blake2s.specs.Rfc7693.{serialised, bytes_of}
use Rattle.blake2s.proofs.blocks.serialised.Goals as goal

pub returns : goal.returns
unfolding serialised bytes_of
returns c = rw (
  c.copy_from_slice.ensures.after,
  c.to_le_bytes.ensures,
  c.copy_from_slice-2.ensures.after,
  c.to_le_bytes-2.ensures,
  c.copy_from_slice-3.ensures.after,
  c.to_le_bytes-3.ensures,
  c.copy_from_slice-4.ensures.after,
  c.to_le_bytes-4.ensures,
  c.copy_from_slice-5.ensures.after,
  c.to_le_bytes-5.ensures,
  c.copy_from_slice-6.ensures.after,
  c.to_le_bytes-6.ensures,
  c.copy_from_slice-7.ensures.after,
  c.to_le_bytes-7.ensures,
  c.copy_from_slice-8.ensures.after,
  c.to_le_bytes-8.ensures,
)
