use Rattle.std.proofs.Common.{ℕ, List, ◌≡◌, ◌+◌, ◌-◌, ◌∙◌, ap, take, drop, arith}
use Rattle.z_instr.specs.Computing.{reading_of}
use Rattle.tx_private.proofs.reading.decode_at.Goals as goal

-- the slice from a place to so many further on
part : (a m n : ℕ) (all s : List ℕ) → m ≡ n → all ≡ s → take (a + m - a) (drop a all) ≡ take n (drop a s)
part a m n all s e same =
    ap (λ j. take j (drop a all)) (let f : a + m - a ≡ n = omega (arith, e) in f)
    ∙ ap (λ l. take n (drop a l)) same

pub returns : goal.returns
returns c =
    c.instruction_of.ensures
    ∙ ap reading_of (part c.args.address c.from.result c.args.n c.as_slice-all.result.now c.args.seen.now
    c.from.ensures c.as_slice-all.ensures.bytes)
