use Rattle.std.proofs.Common.{ℕ, ◌++◌, ◌-◌, length, take, drop, replicate}
use Rattle.std.proofs.lemmas.Result.{on_ok_weaker}
use Rattle.z_deck.proofs.Written.{text_added, on_ok_if}
use Rattle.z_deck.proofs.writing.add_text.Goals as goal

pub returns : goal.returns
returns c =
    on_ok_weaker c.extend_from_slice-2.result
    (text_added c.args.deck.now.items c.add_head.new.deck.items c.extend_from_slice.new.self.items
    c.extend_from_slice-2.new.self.items c.args.bytes.now c.args.address c.in_ok-add_head.ensures
    c.in_ok-extend_from_slice.ensures.items)
    (on_ok_if c.extend_from_slice-2.result c.extend_from_slice-2.new.self.items
    (c.extend_from_slice.new.self.items
    ++ take (64 - length c.args.bytes.now) (drop (length c.args.bytes.now) (replicate {A = ℕ} 64 64)))
    c.extend_from_slice.new.self.items c.extend_from_slice-2.ensures.items)
