-- The bytes that are stored are kept apart, and those that were there come back.
use Rattle.std.proofs.Common.{◌≡◌, List, ℕ, ap, sym, subst, ◌∙◌, arith, length, take, get_or}
use Rattle.std.proofs.lemmas.List.{length-take-le}
use Rattle.z_regs.specs.Cpu.{cpu_of}
use Rattle.z_regs.specs.declared.ranges.Range.{Range}
use Rattle.z_effect.specs.After.{range_at, written}
use Rattle.tx_attempt.specs.Performed.{StoresFirst, no_range}
use Rattle.tx_attempt.proofs.Bare.{apart-so, brought-back}
use Rattle.tx_attempt.proofs.Fetching.{all-inside}
use Rattle.tx_attempt.proofs.Returning.{operand-end, kept-apart}
use Rattle.tx_attempt.proofs.Small.{small-so, part-small, range-small}
use Rattle.tx_attempt.proofs.Stored.{operands-first}
use Rattle.z_regs.proofs.OneArea.{length-range_at}
use Rattle.tx_attempt.proofs.performing.execute_apart.Goals as goal

pub fetch-requires-clause-few : goal.fetch-requires-clause-few
fetch-requires-clause-few g c =
    part-small c.operand-first.result.length c.args.stored.now
    (small-so c.args.image.now.prefix c.args.need.now 0 _ c.requires.accessible c.operand-first.ensures)

pub exchange-requires-clause-few : goal.exchange-requires-clause-few
exchange-requires-clause-few g c =
    range-small (g.V.Bytes.bytes c.args.base.now) c.operand-first.result.first
    (length (take c.operand-first.result.length c.args.stored.now)) c.fetch.new.bytes c.fetch.ensures (part-small c.operand-first.result.length c.args.stored.now
    (small-so c.args.image.now.prefix c.args.need.now 0 _ c.requires.accessible c.operand-first.ensures))

pub execute_plain-ended-requires-clause-inside : goal.execute_plain-ended-requires-clause-inside
execute_plain-ended-requires-clause-inside g c =
    all-inside c.args.image.now.prefix c.args.need.now (g.V.Bytes.bytes c.args.base.now) c.requires.size
    c.requires.accessible

pub returns-clause-done : goal.returns-clause-done
returns-clause-done g c =
    let need = c.args.need.now in
    let s : List ℕ = g.V.Bytes.bytes c.args.base.now in
    let t : List ℕ = g.V.Bytes.bytes c.execute_plain-ended.new.base in
    let first : c.operand-first.result ≡ get_or need 0 no_range = c.operand-first.ensures in
    let size = ap (λ (r : Range). r.length) first in
    let end = operand-end c.args.image.now.prefix need 0 c.requires.accessible in
    let kept : c.fetch.new.bytes ≡ range_at s (get_or need 0 no_range).first (get_or need 0 no_range).length =
    c.fetch.ensures ∙ ap (range_at s c.operand-first.result.first)
    (length-take-le c.operand-first.result.length c.args.stored.now (omega (arith, size, c.requires.room)))
    ∙ ap (λ (r : Range). range_at s r.first r.length) first in
    let count : length c.fetch.new.bytes ≡ (get_or need 0 no_range).length =
    ap length kept ∙ length-range_at s (get_or need 0 no_range).first (get_or need 0 no_range).length
    (omega (arith, end, c.requires.size)) in
    let back : c.exchange.new.bytes
    ≡ range_at t (get_or need 0 no_range).first (get_or need 0 no_range).length =
    c.exchange.ensures.bytes ∙ (λ j. range_at t (first j).first (count j)) in
    apart-so c.args.instr.now (cpu_of c.args.image.now) (cpu_of c.execute_plain-ended.new.image)
    c.args.image.now.prefix need s t _ _ c.requires.need c.requires.accessible c.requires.size
    c.execute_plain-ended.ensures.left
    (kept-apart need t c.exchange.new.bytes _ (omega (arith, end, c.execute_plain-ended.ensures.size)) back)

pub returns-clause-same : goal.returns-clause-same
returns-clause-same g c =
    let need = c.args.need.now in
    let s : List ℕ = g.V.Bytes.bytes c.args.base.now in
    let t : List ℕ = g.V.Bytes.bytes c.execute_plain-ended.new.base in
    let first : c.operand-first.result ≡ get_or need 0 no_range = c.operand-first.ensures in
    let size = ap (λ (r : Range). r.length) first in
    let end = operand-end c.args.image.now.prefix need 0 c.requires.accessible in
    let kept : c.fetch.new.bytes ≡ range_at s (get_or need 0 no_range).first (get_or need 0 no_range).length =
    c.fetch.ensures ∙ ap (range_at s c.operand-first.result.first)
    (length-take-le c.operand-first.result.length c.args.stored.now (omega (arith, size, c.requires.room)))
    ∙ ap (λ (r : Range). range_at s r.first r.length) first in
    brought-back need _ s t (g.V.Bytes.bytes c.exchange.new.base) c.fetch.new.bytes
    (subst StoresFirst (sym c.requires.need) (operands-first c.args.instr.now (cpu_of c.args.image.now)))
    (omega (arith, end, c.requires.size)) kept (c.execute_plain-ended.ensures.left 0).view
    (c.exchange.ensures.storage ∙ ap (λ (r : Range). written t r.first c.fetch.new.bytes) first)
