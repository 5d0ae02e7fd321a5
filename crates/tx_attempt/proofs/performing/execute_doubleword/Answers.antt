-- The doubleword that is stored is kept apart, and the one that was there comes back.
use Rattle.std.proofs.Common.{◌≡◌, List, ℕ, ap, sym, subst, ◌∙◌, arith, get_or, take, drop}
use Rattle.byteorder.specs.Endian.{big_bytes}
use Rattle.z_regs.specs.Cpu.{cpu_of}
use Rattle.z_regs.specs.declared.ranges.Range.{Range}
use Rattle.z_effect.specs.After.{range_at, written}
use Rattle.tx_attempt.specs.Performed.{StoresFirst, no_range, first_size, first_bytes}
use Rattle.tx_attempt.proofs.Bare.{apart-so, brought-back}
use Rattle.tx_attempt.proofs.Fetching.{all-inside}
use Rattle.tx_attempt.proofs.Returning.{operand-end, kept-apart}
use Rattle.tx_attempt.proofs.Stored.{operands-first}
use Rattle.tx_attempt.proofs.performing.execute_doubleword.Goals as goal

pub word-kept-requires-clause-inside : goal.word-kept-requires-clause-inside
word-kept-requires-clause-inside g c =
    let end = operand-end c.args.image.now.prefix c.args.need.now 0 c.requires.accessible in
    let first = ap (λ (r : Range). r.first) c.operand-first.ensures in
    omega (arith, end, first, c.requires.eight, c.requires.size)

pub execute_plain-ended-requires-clause-inside : goal.execute_plain-ended-requires-clause-inside
execute_plain-ended-requires-clause-inside g c =
    all-inside c.args.image.now.prefix c.args.need.now (g.V.Bytes.bytes c.args.base.now) c.requires.size
    c.requires.accessible

pub word-item-requires-clause-inside : goal.word-item-requires-clause-inside
word-item-requires-clause-inside g c =
    let end = operand-end c.args.image.now.prefix c.args.need.now 0 c.requires.accessible in
    let first = ap (λ (r : Range). r.first) c.operand-first.ensures in
    omega (arith, end, first, c.requires.eight, c.execute_plain-ended.ensures.size)

pub put_word-requires-clause-inside : goal.put_word-requires-clause-inside
put_word-requires-clause-inside g c =
    let end = operand-end c.args.image.now.prefix c.args.need.now 0 c.requires.accessible in
    let first = ap (λ (r : Range). r.first) c.operand-first.ensures in
    omega (arith, end, first, c.requires.eight, c.execute_plain-ended.ensures.size)

pub returns-clause-done : goal.returns-clause-done
returns-clause-done g c =
    let need = c.args.need.now in
    let s : List ℕ = g.V.Bytes.bytes c.args.base.now in
    let t : List ℕ = g.V.Bytes.bytes c.execute_plain-ended.new.base in
    let first : c.operand-first.result ≡ get_or need 0 no_range = c.operand-first.ensures in
    let end = operand-end c.args.image.now.prefix need 0 c.requires.accessible in
    let item : List ℕ = big_bytes 8 c.word-item.result in
    let there : item ≡ range_at t (get_or need 0 no_range).first (get_or need 0 no_range).length =
    c.word-item.ensures.bytes ∙ (λ j. range_at t (first j).first (sym c.requires.eight j)) in
    let rest : List ℕ = drop 8 c.args.stored.now in
    let apart : take (first_size need) c.write_u64.new.buf ≡ first_bytes need t =
    ap (take (first_size need)) c.write_u64.ensures
    ∙ kept-apart need t item rest (omega (arith, end, c.execute_plain-ended.ensures.size)) there in
    apart-so c.args.instr.now (cpu_of c.args.image.now) (cpu_of c.execute_plain-ended.new.image)
    c.args.image.now.prefix need s t _ _ c.requires.need c.requires.accessible c.requires.size
    c.execute_plain-ended.ensures.left apart

pub returns-clause-same : goal.returns-clause-same
returns-clause-same g c =
    let need = c.args.need.now in
    let s : List ℕ = g.V.Bytes.bytes c.args.base.now in
    let t : List ℕ = g.V.Bytes.bytes c.execute_plain-ended.new.base in
    let first : c.operand-first.result ≡ get_or need 0 no_range = c.operand-first.ensures in
    let end = operand-end c.args.image.now.prefix need 0 c.requires.accessible in
    let kept : List ℕ = big_bytes 8 c.word-kept.result in
    brought-back need _ s t (g.V.Bytes.bytes c.put_word.new.self) kept
    (subst StoresFirst (sym c.requires.need) (operands-first c.args.instr.now (cpu_of c.args.image.now)))
    (omega (arith, end, c.requires.size))
    (c.word-kept.ensures.bytes ∙ (λ j. range_at s (first j).first (sym c.requires.eight j)))
    (c.execute_plain-ended.ensures.left 0).view
    (c.put_word.ensures ∙ ap (λ (r : Range). written t r.first kept) first)
