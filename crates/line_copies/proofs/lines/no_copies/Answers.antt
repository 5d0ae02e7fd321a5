use Rattle.std.proofs.Common.{◌≡◌, ◌+◌, [], ◌∷◌, ◌++◌, length, ap, ◌∙◌, arith}
use Rattle.std.specs.Prelude.{if◌then◌else◌}
use Rattle.std.proofs.lemmas.List.{length_push}
use Rattle.line_copies.specs.Seen.{copied}
use Rattle.line_copies.proofs.Shown.{copied_past, copied_push}
use Rattle.line_copies.proofs.lines.no_copies.Goals as goal

pub loop-init : goal.loop-init
loop-init c =
    let size = ap length c.new-copies.ensures.items in
    record {
      size = size;
      none = λ cpu line. copied_past c.new-copies.result.items cpu line (omega (arith, size));
    }

pub loop-preserved : goal.loop-preserved
loop-preserved c =
    let items : c.push.new.self.items ≡ c.loop.copies.items ++ c.in_ok-l1.l1 ∷ [] = c.in_ok-push.ensures.items in
    record {
      size = ap length items ∙ length_push c.loop.copies.items c.in_ok-l1.l1
          ∙ ap (λ n. n + 1) c.loop.invariant.size;
      none = λ cpu line. ap (λ k. copied k cpu line) items
          ∙ copied_push c.loop.copies.items c.in_ok-l1.l1 c.in_ok-l1.ensures c.loop.invariant.none cpu line;
    }
