-- The loop of `bytes::put_number`: the bytes of the word so far were put, and the others are as found.
-- Assumes nothing.
use Rattle.images.proofs.FieldPut.{BytesPut}
use Rattle.images.proofs.bytes.put_number.Given as goal

abbrev pub invariant-loop-k : goal.invariant-loop-k
invariant-loop-k l = BytesPut l.word l.first l.k l.initial.buffer l.buffer
