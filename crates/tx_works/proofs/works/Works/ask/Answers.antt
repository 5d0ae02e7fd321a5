-- The question is counted, then the holder answers, and each answer is that of the machine over events.
use Rattle.std.proofs.Common.{length, sym, ap, subst, ◌∙◌, arith}
use Rattle.line_table.specs.Holders.{Holders, is_against}
use Rattle.tx_lines.specs.Plans.{HasRoom}
use Rattle.tx_lines.specs.Owned.{Owned, holders_in}
use Rattle.tx_keeping.specs.Kept.{Kept, kept_footprint}
use Rattle.tx_works.specs.Works.{kept_by}
use Rattle.tx_works.specs.Ready.{MayEndBy}
use Rattle.tx_works.proofs.Seats.{no_seat}
use Rattle.tx_works.proofs.Leaves.{abort_held}
use Rattle.tx_works.proofs.Questions.{yields_is, rejects_is, aborts_is, conflict_is, still_live}
use Rattle.tx_works.proofs.Questions.{still_climbs}
use Rattle.tx_works.proofs.Questions.{cause_case, room_left, fewer_rejected}
use Rattle.tx_works.proofs.works.Works.ask.Goals as goal

pub take_reject-starved-requires-clause-room : goal.take_reject-starved-requires-clause-room
take_reject-starved-requires-clause-room c rest =
    fewer_rejected c.args.cpu c.args.holder (kept_by rest c.ask_once_more.new.self)
    (kept_by rest c.answer_of.new.self) (c.in-Rejects.ensures.kept rest) (c.ask_once_more.ensures.room rest)

pub abort-requires-clause-live : goal.abort-requires-clause-live
abort-requires-clause-live c rest =
    still_live c.args.cpu c.args.holder c.args.need (kept_by rest c.args.self.now)
    (kept_by rest c.ask_once_more.new.self) c.asker-asker.result (c.ask_once_more.ensures.kept rest)
    (c.asker-asker.ensures rest) c.in-Aborts.why (c.in-Aborts.ensures.value rest)
    (kept_by rest c.answer_of.new.self) (c.in-Aborts.ensures.kept rest)

pub abort-requires-clause-code : goal.abort-requires-clause-code
abort-requires-clause-code c =
    let rest = no_seat in
    let k = kept_by rest c.args.self.now in
    let conflict = conflict_is c.args.cpu c.args.holder c.args.need k (kept_by rest c.ask_once_more.new.self)
    c.asker-asker.result (c.ask_once_more.ensures.kept rest) (c.asker-asker.ensures rest) c.in-Aborts.why
    (c.in-Aborts.ensures.value rest) in
    subst HasRoom (sym conflict.cause)
    (cause_case HasRoom (kept_footprint k c.args.holder).stored c.args.need.line tt tt)

pub abort-requires-clause-climbs : goal.abort-requires-clause-climbs
abort-requires-clause-climbs c rest =
    let k = kept_by rest c.args.self.now in
    let counted = kept_by rest c.ask_once_more.new.self in
    let answered = kept_by rest c.answer_of.new.self in
    let conflict = conflict_is c.args.cpu c.args.holder c.args.need k counted c.asker-asker.result
    (c.ask_once_more.ensures.kept rest) (c.asker-asker.ensures rest) c.in-Aborts.why
    (c.in-Aborts.ensures.value rest) in
    let climbs = still_climbs c.args.cpu c.args.holder c.args.need k counted c.asker-asker.result
    (c.ask_once_more.ensures.kept rest) (c.asker-asker.ensures rest)
    (length c.args.self.now.slots) (c.requires.ready rest).asks c.requires.holder c.requires.other conflict.live answered (c.in-Aborts.ensures.kept rest) in
    subst (λ w. MayEndBy w answered c.args.holder) (sym conflict.cause)
    (cause_case (λ w. MayEndBy w answered c.args.holder) (kept_footprint k c.args.holder).stored
    c.args.need.line
    climbs climbs)

pub abort-requires-clause-room : goal.abort-requires-clause-room
abort-requires-clause-room c =
    let rest = no_seat in
    let k = kept_by rest c.args.self.now in
    let conflict = conflict_is c.args.cpu c.args.holder c.args.need k (kept_by rest c.ask_once_more.new.self)
    c.asker-asker.result (c.ask_once_more.ensures.kept rest) (c.asker-asker.ensures rest) c.in-Aborts.why
    (c.in-Aborts.ensures.value rest) in
    let left = room_left c.args.self.now k c.args.holder c.requires.holder conflict.live
    (c.requires.ready rest).room in
    let written = ap length (c.in-Aborts.ensures.history ∙ c.ask_once_more.ensures.history) in
    omega (arith, left, written, c.in-Aborts.ensures.size.room, c.ask_once_more.ensures.size.room)

pub yield_line-requires-in-Aborts-clause-stands : goal.yield_line-requires-in-Aborts-clause-stands
yield_line-requires-in-Aborts-clause-stands c =
    let rest = no_seat in
    let held = ap (λ (k : Kept). k.state.held) (c.abort.ensures.value rest)
    ∙ abort_held c.args.holder c.in-Aborts.why c.next_address-at.result (kept_by rest c.answer_of.new.self) in
    ap (λ (h : Holders). is_against c.args.need.mode (h c.args.holder c.args.need.line)) held
    ∙ ap (λ (l : Owned). is_against c.args.need.mode (holders_in l c.args.holder c.args.need.line))
    (c.in-Aborts.ensures.lines ∙ c.ask_once_more.ensures.lines) ∙ c.requires.stands

pub returns-in-Yields-clause-kept : goal.returns-in-Yields-clause-kept
returns-in-Yields-clause-kept c rest =
    yields_is c.args.cpu c.args.holder c.args.need (kept_by rest c.args.self.now)
    (kept_by rest c.ask_once_more.new.self) c.asker-asker.result (c.ask_once_more.ensures.kept rest)
    (c.asker-asker.ensures rest) (kept_by rest c.answer_of.new.self) (kept_by rest c.yield_line.new.self)
    (c.in-Yields.ensures.value rest) (c.in-Yields.ensures.kept rest) (c.yield_line.ensures.kept rest)

pub returns-in-Rejects-clause-kept : goal.returns-in-Rejects-clause-kept
returns-in-Rejects-clause-kept c rest =
    rejects_is c.args.cpu c.args.holder c.args.need (kept_by rest c.args.self.now)
    (kept_by rest c.ask_once_more.new.self) c.asker-asker.result (c.ask_once_more.ensures.kept rest)
    (c.asker-asker.ensures rest) (kept_by rest c.answer_of.new.self)
    (kept_by rest c.take_reject-starved.new.self)
    (c.in-Rejects.ensures.value rest) (c.in-Rejects.ensures.kept rest)
    (c.take_reject-starved.ensures.kept rest)

pub returns-in-Aborts-clause-kept : goal.returns-in-Aborts-clause-kept
returns-in-Aborts-clause-kept c rest =
    aborts_is c.args.cpu c.args.holder c.args.need (kept_by rest c.args.self.now)
    (kept_by rest c.ask_once_more.new.self) c.asker-asker.result (c.ask_once_more.ensures.kept rest)
    (c.asker-asker.ensures rest) (kept_by rest c.answer_of.new.self) (kept_by rest c.abort.new.self)
    (kept_by rest c.yield_line-in-Aborts.new.self) c.in-Aborts.why c.next_address-at.result
    (c.in-Aborts.ensures.value rest) (c.in-Aborts.ensures.kept rest) (c.next_address-at.ensures rest)
    (c.abort.ensures.value rest) (c.yield_line-in-Aborts.ensures.kept rest)
