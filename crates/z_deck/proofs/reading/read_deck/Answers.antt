use Rattle.std.proofs.Common.{◌≡◌, ℕ, ◌+◌, ◌*◌, ◌/◌, ◌≤◌, ◌<◌, length, Option, Some, None, refl, sym, ap, subst, ◌∙◌, arith}
use Rattle.z_deck.specs.Loading.{Loaded}
use Rattle.z_deck.specs.Reading.{too_long}
use Rattle.z_deck.specs.Said.{IsFault}
use Rattle.z_deck.specs.declared.fault.Kind.TheVariants.{ShortCard, NoEnd}
use Rattle.z_deck.proofs.Loaded.{first_cards}
use Rattle.z_deck.proofs.Decks.{begun, next, fault_in, short_in, no_end_in, deck_in, enters_low}
use Rattle.z_deck.proofs.Decks.{card_fault, at_count, has_ended}
use Rattle.z_deck.proofs.reading.read_deck.Goals as goal

pub returns-then-bytes-gt-MOST_BYTES-clause-fault : goal.returns-then-bytes-gt-MOST_BYTES-clause-fault
returns-then-bytes-gt-MOST_BYTES-clause-fault c =
    (ShortCard, too_long c.if-bytes-gt-MOST_BYTES.true refl refl, c.number.ensures)

pub loop-k-init : goal.loop-k-init
loop-k-init c = begun c.args.origin c.args.bytes.now c.in_ok-storage.storage.items c.in_ok-storage.ensures.len
    c.in_ok-storage.ensures.is

pub returns-in-Err-clause-fault : goal.returns-in-Err-clause-fault
returns-in-Err-clause-fault c =
    let few : length c.args.bytes.now ≤ 16777216 = omega arith in
    let more : 80 * c.loop-k.k < length c.args.bytes.now = omega arith in
    card_fault c.args.bytes.now c.args.origin c.loop-k.k c.in-Err.kind c.fault_behind.result c.fault_behind.ensures
    (fault_in c.args.origin c.args.bytes.now few c.loop-k.k c.loop-k.loading.storage.items c.loop-k.loading.end
    c.card_at.result.now c.in-Err.kind more c.card_at.ensures.is c.in-Err.ensures.fault c.loop-k.invariant)

pub loop-k-preserved : goal.loop-k-preserved
loop-k-preserved c =
    next c.args.origin c.args.bytes.now c.loop-k.k c.card_at.result.now c.take_card.new.loading.storage.items
    c.take_card.new.loading.end c.card_at.ensures.is
    (c.in-Ok.ensures.loaded (first_cards c.loop-k.k c.args.bytes.now) c.loop-k.invariant)

pub returns-then-cards-bytes-clause-fault : goal.returns-then-cards-bytes-clause-fault
returns-then-cards-bytes-clause-fault c =
    let few : length c.args.bytes.now ≤ 16777216 = omega arith in
    let count = length c.args.bytes.now / 80 in
    let reached : c.loop-k.k ≡ length c.args.bytes.now / 80 = omega arith in
    let less : length c.args.bytes.now < 80 * (length c.args.bytes.now / 80) + 80 = omega arith in
    card_fault c.args.bytes.now c.args.origin count ShortCard c.fault_behind-then-cards-bytes.result
    c.fault_behind-then-cards-bytes.ensures
    (short_in c.args.origin c.args.bytes.now few count c.loop-k.loading.storage.items c.loop-k.loading.end
    c.if-cards-bytes.true less
    (at_count c.args.origin c.args.bytes.now c.loop-k.k count c.loop-k.loading.storage.items c.loop-k.loading.end
    reached c.loop-k.invariant))

pub invariant_of-result : goal.invariant_of-result
invariant_of-result c =
    let l = has_ended c.args.origin c.args.bytes.now c.loop-k.k c.loop-k.loading.storage.items c.loop-k.loading.end
    c.in-Some.entry c.in-Some.is c.loop-k.invariant in
    record {
      size = l.holds.size;
      low = l.low;
      within = enters_low c.args.origin c.args.bytes.now (omega arith) c.loop-k.k c.loop-k.loading.storage.items
          c.in-Some.entry l;
    }

pub returns-in-None-clause-fault : goal.returns-in-None-clause-fault
returns-in-None-clause-fault c =
    let few : length c.args.bytes.now ≤ 16777216 = omega arith in
    let count = length c.args.bytes.now / 80 in
    let reached : c.loop-k.k ≡ length c.args.bytes.now / 80 = omega arith in
    let all : 80 * (length c.args.bytes.now / 80) ≡ length c.args.bytes.now = omega arith in
    card_fault c.args.bytes.now c.args.origin count NoEnd c.fault_behind-in-None.result
    c.fault_behind-in-None.ensures
    (no_end_in c.args.origin c.args.bytes.now few count c.loop-k.loading.storage.items all
    (subst (Loaded c.args.origin (first_cards count c.args.bytes.now) c.loop-k.loading.storage.items) c.in-None.is
    (at_count c.args.origin c.args.bytes.now c.loop-k.k count c.loop-k.loading.storage.items c.loop-k.loading.end
    reached c.loop-k.invariant)))

pub returns-in-Some-clause-deck : goal.returns-in-Some-clause-deck
returns-in-Some-clause-deck c =
    let few : length c.args.bytes.now ≤ 16777216 = omega arith in
    let count = length c.args.bytes.now / 80 in
    let reached : c.loop-k.k ≡ length c.args.bytes.now / 80 = omega arith in
    let all : 80 * (length c.args.bytes.now / 80) ≡ length c.args.bytes.now = omega arith in
    deck_in c.args.origin c.args.bytes.now few count c.loop-k.loading.storage.items c.in-Some.entry all
    (has_ended c.args.origin c.args.bytes.now count c.loop-k.loading.storage.items c.loop-k.loading.end
    c.in-Some.entry c.in-Some.is
    (at_count c.args.origin c.args.bytes.now c.loop-k.k count c.loop-k.loading.storage.items c.loop-k.loading.end
    reached c.loop-k.invariant))
