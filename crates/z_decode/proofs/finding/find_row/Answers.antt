use Rattle.std.proofs.Common.{arith, sym, ◌∙◌}
use Rattle.std.proofs.lemmas.Option.{IfSome_then}
use Rattle.z_instr.proofs.Distinct.{opcode_gives_length}
use Rattle.z_decode.proofs.Keys.{key_to_opcode, opcode_to_key}
use Rattle.z_decode.proofs.Unread.{IfNone_then}
use Rattle.z_decode.proofs.finding.find_row.Goals as goal

pub returns-clause-found : goal.returns-clause-found
returns-clause-found c =
    IfSome_then c.search.result c.search.ensures.found
    (λ op e. key_to_opcode op.number c.args.bytes.now op.known (λ i. omega (arith, c.type_inv.bytes i)) (e ∙
    c.key_for.ensures))

pub returns-clause-length : goal.returns-clause-length
returns-clause-length c =
    IfSome_then c.search.result (returns-clause-found c)
    (λ op has. c.requires ∙ opcode_gives_length op.number c.args.bytes.now op.known (λ i. omega (
      arith,
      c.type_inv.bytes i,
    )) has)

pub returns-clause-none : goal.returns-clause-none
returns-clause-none c =
    IfNone_then c.search.result c.search.ensures.none
    (λ none n h has. none n h (opcode_to_key n c.args.bytes.now h (λ i. omega (
      arith,
      c.type_inv.bytes i,
    )) has ∙ sym c.key_for.ensures))
