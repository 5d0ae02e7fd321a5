use Rattle.std.proofs.Common.{◌≡◌, ◌≤◌, ◌+◌, ◌*◌, ◌/◌, ◌%◌, List, ℕ, arith, ap, ◌∙◌, length}
use Rattle.z_effect.specs.After.{written}
use Rattle.z_instr.specs.declared.kind.Combination.TheVariants.{Logic}
use Rattle.z_regs.proofs.Writes.{length-written}
use Rattle.z_storage.proofs.Combined.{combined, next, all_zero, combine_step, all_zero_step, nothing_combined, none_zero}
use Rattle.z_storage.proofs.Moves.{apart_cases}
use Rattle.z_effect.proofs.Lengths.{length-results}
use Rattle.z_storage.proofs.lists.combine_apart.Goals as goal

pub loop-k-init : goal.loop-k-init
loop-k-init g c =
    let s = g.V.Bytes.bytes c.args.view.now in
    record {
      so_far = nothing_combined (Logic c.args.kind) s c.args.target c.args.source c.args.count;
      zero = none_zero (Logic c.args.kind) s c.args.target c.args.source c.args.count;
      size = c.requires.size;
    }

pub loop-k-preserved : goal.loop-k-preserved
loop-k-preserved g c =
    let s = g.V.Bytes.bytes c.args.view.now in
    let now = g.V.Bytes.bytes c.loop-k.view in
    let m = Logic c.args.kind in
    let n = c.args.count in
    let k = c.loop-k.k in
    let few : 8 * k + 8 ≤ n = omega arith in
    let more : 8 * k + 8 ≡ 8 * (k + 1) = omega arith in
    let target_in : c.args.target + n ≤ length s = omega (arith, c.requires.size, c.requires.target_in) in
    let source_in : c.args.source + n ≤ length s = omega (arith, c.requires.size, c.requires.source_in) in
    let apart = apart_cases n c.args.target c.args.source c.requires.apart in
    let chunk : List ℕ = next m s c.args.target c.args.source n now (8 * k) 8 in
    let size : length chunk ≡ 8 = length-results 8 m 8 _ _ in
    record {
      so_far =
          combine_step m s c.args.target c.args.source n now (8 * k) 8 target_in source_in apart few
          c.loop-k.invariant.so_far _ c.combine_item-item.ensures.stored
          ∙ ap (λ j. written s c.args.target (combined m s c.args.target c.args.source n j)) more;
      zero =
          all_zero_step m s c.args.target c.args.source n now (8 * k) 8 target_in source_in apart few
          c.loop-k.invariant.so_far _ _ c.loop-k.invariant.zero c.combine_item-item.ensures.zero
          ∙ ap (λ j. all_zero (combined m s c.args.target c.args.source n j)) more;
      size =
          ap length c.combine_item-item.ensures.stored
          ∙ length-written now (c.args.target + 8 * k) chunk
          (omega (arith, size, few, c.loop-k.invariant.size, c.requires.target_in))
          ∙ c.loop-k.invariant.size;
    }

pub returns-then-rest-eq0 : goal.returns-then-rest-eq0
returns-then-rest-eq0 g c =
    let s = g.V.Bytes.bytes c.args.view.now in
    let m = Logic c.args.kind in
    let all : 8 * c.loop-k.k ≡ c.args.count = omega arith in
    record {
      stored = c.loop-k.invariant.so_far
          ∙ ap (λ j. written s c.args.target (combined m s c.args.target c.args.source c.args.count j)) all;
      zero = c.loop-k.invariant.zero
          ∙ ap (λ j. all_zero (combined m s c.args.target c.args.source c.args.count j)) all;
    }

pub returns : goal.returns
returns g c =
    let s = g.V.Bytes.bytes c.args.view.now in
    let now = g.V.Bytes.bytes c.loop-k.view in
    let m = Logic c.args.kind in
    let n = c.args.count in
    let whole = n / 8 in
    let rest = n % 8 in
    let all : 8 * whole + rest ≡ n = omega arith in
    let end : 8 * c.loop-k.k ≡ 8 * whole = omega arith in
    let target_in : c.args.target + n ≤ length s = omega (arith, c.requires.size, c.requires.target_in) in
    let source_in : c.args.source + n ≤ length s = omega (arith, c.requires.size, c.requires.source_in) in
    let apart = apart_cases n c.args.target c.args.source c.requires.apart in
    let so_far = c.loop-k.invariant.so_far
    ∙ ap (λ j. written s c.args.target (combined m s c.args.target c.args.source n j)) end in
    let zero = c.loop-k.invariant.zero
    ∙ ap (λ j. all_zero (combined m s c.args.target c.args.source n j)) end in
    record {
      stored =
          combine_step m s c.args.target c.args.source n now (8 * whole) rest target_in source_in apart
          (omega (arith, all)) so_far _ c.combine_item-last.ensures.stored
          ∙ ap (λ j. written s c.args.target (combined m s c.args.target c.args.source n j)) all;
      zero =
          all_zero_step m s c.args.target c.args.source n now (8 * whole) rest target_in source_in apart
          (omega (arith, all)) so_far _ _ zero c.combine_item-last.ensures.zero
          ∙ ap (λ j. all_zero (combined m s c.args.target c.args.source n j)) all;
    }
