use Rattle.std.proofs.Common.{◌≡◌, ◌≤◌, ◌+◌, ◌-◌, ℕ, length, ap, subst, take, drop, arith, rules}
use Rattle.z_instr.specs.Reading.{Reads}
use Rattle.tx_journal.specs.Image.{length_at}
use Rattle.z_list.proofs.Codes.{code_is_whole}
use Rattle.z_list.proofs.lines.code_at.Goals as goal

pub slice_bounds-result-end : goal.slice_bounds-result-end
slice_bounds-result-end c =
    let storage = c.args.storage.now in
    let whole : c.args.start + c.from-length.result ≤ length storage =
    omega (arith, code_is_whole storage c.args.start c.requires) in
    search rules

pub returns-clause-value : goal.returns-clause-value
returns-clause-value c =
    ap (λ (n : ℕ). take n (drop c.args.start c.args.storage.now))
    (omega (arith, c.length_of.ensures, c.from-length.ensures))

pub returns-clause-readable : goal.returns-clause-readable
returns-clause-readable c =
    let storage = c.args.storage.now in
    let same : length_at storage c.args.start ≡ c.args.start + c.from-length.result - c.args.start =
    omega (arith, c.length_of.ensures, c.from-length.ensures)
    in
    let i = c.requires.instr in
    (i, subst (λ (n : ℕ). Reads (take n (drop c.args.start storage)) i) same c.requires.reads)
