-- A line has the bytes of its places.
use Rattle.std.proofs.Common.{◌≡◌, ◌+◌, ◌*◌, ◌%◌, get_or, ap, ◌∙◌, arith}
use Rattle.z_regs.proofs.OneArea.{in_range}
use Rattle.tx_lines.specs.Owned.{Owned}
use Rattle.tx_lines.proofs.lines.Lines.line_at.Goals as goal

pub returns-clause-bytes : goal.returns-clause-bytes
returns-clause-bytes c = λ a here.
    let seen = c.self.inside.lines.bytes in
    let first = c.args.line * 256 in
    let place : first + a % 256 ≡ a = omega (arith, here) in
    ap (λ bytes. get_or bytes (a % 256) 0) c.line_at.ensures.bytes
    ∙ in_range seen first 256 (a % 256) (omega arith)
    ∙ ap (λ n. get_or seen n 0) place
    ∙ ap (λ (o : Owned). get_or o.bytes a 0) c.self.view_is
