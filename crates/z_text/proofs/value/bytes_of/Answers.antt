-- A number is read back from its bytes.
use Rattle.std.proofs.Common.{◌∙◌, ap, arith, w64}
use Rattle.std.specs.Int.{from_be_bytes}
use Rattle.std.proofs.lemmas.Nat.{from_be_bytes-to_be_bytes_8}
use Rattle.z_text.proofs.value.bytes_of.Goals as goal

pub returns : goal.returns
returns c = ap (from_be_bytes w64) c.to_be_bytes.ensures ∙ from_be_bytes-to_be_bytes_8 c.args.number (omega (arith, c.ranges.number))
