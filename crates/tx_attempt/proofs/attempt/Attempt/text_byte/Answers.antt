-- There is nothing behind the end of storage.
use Rattle.std.proofs.Common.{◌≤◌, ◌+◌, arith}
use Rattle.z_regs.specs.Prefix.{storage_size}
use Rattle.store_cache.specs.Entries.{stores_of}
use Rattle.tx_attempt.proofs.Reached.{nothing_beyond}
use Rattle.tx_attempt.proofs.attempt.Attempt.text_byte.Goals as goal

pub returns-then-first-ge-STORAGE_SIZE : goal.returns-then-first-ge-STORAGE_SIZE
returns-then-first-ge-STORAGE_SIZE c =
    let past : storage_size ≤ c.args.first + c.args.k = omega arith in
    rw (← c.self.view_is)
    (nothing_beyond (stores_of c.self.inside.stores).overlay c.args.prefix c.args.text.now
    (c.args.first + c.args.k) c.requires.prefix_in c.requires.size c.self.invariant.inside past)

pub returns-then-address-ge-STORAGE_SIZE : goal.returns-then-address-ge-STORAGE_SIZE
returns-then-address-ge-STORAGE_SIZE c =
    let past : storage_size ≤ c.args.first + c.args.k = omega arith in
    rw (← c.self.view_is)
    (nothing_beyond (stores_of c.self.inside.stores).overlay c.args.prefix c.args.text.now
    (c.args.first + c.args.k) c.requires.prefix_in c.requires.size c.self.invariant.inside past)
