use Rattle.std.proofs.Common.{◌≡◌, ℕ, ◌/◌, ◌&&◌, ltb, cond, get_or, length}
use Rattle.z_regs.specs.Pairs.{saves_pair}
use Rattle.tx_abort.proofs.registers.bring_back.Given as goal

-- the selected registers so far are brought back, and no other has changed
abbrev pub invariant-loop-r : goal.invariant-loop-r
invariant-loop-r l =
    (length l.general ≡ 16)
    × ((k : ℕ) →
    get_or l.general k 0 ≡
    cond (ltb k l.r && saves_pair l.mask (k / 2)) (get_or l.saved k 0) (get_or l.initial.general k 0))
