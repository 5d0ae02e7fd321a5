use Rattle.std.proofs.Common.{◌≡◌, ◌*◌, ◌/◌, ℕ, Bool, false, length, get_or, vec_len, ap, ◌∙◌, arith}
use Rattle.bit_set.proofs.Marks.{blank_at}
use Rattle.line_table.specs.Sizes.{storage_lines}
use Rattle.std.proofs.lemmas.List.{length-replicate}
use Rattle.line_table.proofs.Seen.{shown}
use Rattle.line_table.proofs.Calls.{opened, nobody_seen}
use Rattle.line_table.proofs.table.LineTable.open.Goals as goal

pub invariant_of-result : goal.invariant_of-result
invariant_of-result c =
    let counts = ap length (c.in_ok-counts.ensures.items_if_clones_equal (λ y e. e))
    ∙ length-replicate {A = ℕ} c.args.cpus 0 in
    let held = ap length c.in_ok-held.ensures
    ∙ length-replicate {A = Bool} (64 * (storage_lines / 64 * c.args.cpus)) false in
    let holders = ap length c.in_ok-holders.ensures
    ∙ length-replicate {A = Bool} (64 * (storage_lines * c.div_ceil-words.result)) false in
    let exclusive = ap length c.in_ok-exclusive.ensures
    ∙ length-replicate {A = Bool} (64 * (storage_lines / 64)) false in
    opened (c.div_ceil-words.result * 64) c.in_ok-held.held c.in_ok-holders.holders
    c.in_ok-exclusive.exclusive c.in_ok-counts.counts.items
    (omega arith) (omega arith) (omega arith) (omega arith) (omega arith) (omega arith)
    (λ k. ap (λ l. get_or l k false) c.in_ok-held.ensures ∙ blank_at _ k false)
    (λ k. ap (λ l. get_or l k false) c.in_ok-holders.ensures ∙ blank_at _ k false)
    (λ k. ap (λ l. get_or l k 0) (c.in_ok-counts.ensures.items_if_clones_equal (λ y e. e))
    ∙ blank_at c.args.cpus k 0)

pub returns-clause-empty : goal.returns-clause-empty
returns-clause-empty c =
    let counts = ap length (c.in_ok-counts.ensures.items_if_clones_equal (λ y e. e))
    ∙ length-replicate {A = ℕ} c.args.cpus 0 in
    let held = ap length c.in_ok-held.ensures
    ∙ length-replicate {A = Bool} (64 * (storage_lines / 64 * c.args.cpus)) false in
    let size : length c.in_ok-held.held ≡ vec_len c.in_ok-counts.counts * storage_lines = omega arith in
    shown (vec_len c.in_ok-counts.counts) c.in_ok-held.held c.in_ok-exclusive.exclusive size
    ∙ nobody_seen c.in_ok-held.held c.in_ok-exclusive.exclusive
    (λ k. ap (λ l. get_or l k false) c.in_ok-held.ensures ∙ blank_at _ k false)
