-- One instruction on two storages in which a CPU sees the same where it looks.
use Rattle.std.proofs.Common.{◌≡◌, ℕ, suc, Bool, true, false, List, [], ◌∷◌, ◌++◌, Option, Some, None}
use Rattle.std.proofs.Common.{refl, sym, ap, subst, ◌∙◌, length}
use Rattle.std.specs.Prelude.{map, nat_eq, nat_lt}
use Rattle.std.specs.List.{list_any}
use Rattle.std.proofs.lemmas.Bool.{or_left, or_right}
use Rattle.z_regs.specs.Prefix.{absolute_of}
use Rattle.z_regs.specs.declared.ranges.Range.{Range}
use Rattle.z_instr.specs.declared.instr.Instr.{Instr}
use Rattle.z_instr.specs.Access.{accessible_pages, text_pages, unfetched}
use Rattle.z_instr.specs.Computing.{reading_of}
use Rattle.z_instr.specs.Layout.{length_by}
use Rattle.z_instr.specs.Operands.{from_up, operation}
use Rattle.z_instr.specs.Roles.{begins}
use Rattle.z_instr.specs.Table.{entry_at}
use Rattle.z_effect.specs.One.{one}
use Rattle.z_effect.specs.Outcome.{Outcome, Did, Divides, Aborts}
use Rattle.z_effect.specs.Outcome as outcome
use Rattle.tx_control.specs.declared.begins.Begin.{Begin}
use Rattle.store_cache.specs.Overlay.{Store, overlay_of, nothing}
use Rattle.tx_serial.specs.Fate.{Excepts, fate_after, length_at}
use Rattle.tx_serial.specs.Flat.{Storage, bytes_seen, operand_bytes, laid_over}
use Rattle.tx_serial.proofs.Frame.{in_first, in_second, length_some, equals_itself}
use Rattle.tx_progress.specs.Doing.{executed, executed_where, closed_by, stores_of}
use Rattle.tx_progress.specs.Local.{Local, Beside}
use Rattle.tx_progress.specs.Progress.{Progress, seen_through, is_live, advanced}
use Rattle.tx_progress.specs.Trial.{at_hand, fetched, fate_by_progress, outcome_by}
use Rattle.tx_progress.specs.declared.done.Done.{Done}
use Rattle.tx_progress.proofs.SeenStores.{laid_is_seen}
use Rattle.tx_lending.specs.Away.{AreDoneAlike}
use Rattle.tx_lending.specs.Places.{places_from, text_places, operand_places, is_among, LookAlike}
use Rattle.tx_lending.specs.Places.{AreStoredAlike}

abbrev pub on : Local → Storage → Beside
on local storage = record { local = local; storage = storage }

-- ---- bytes

-- storages that are the same at places have the same bytes there
pub seen_alike : (prefix : Option ℕ) (s t : Storage) (xs : List ℕ)
    → ((a : ℕ) → is_among (map (absolute_of prefix) xs) a ≡ true → t a ≡ s a)
    → map (λ a. t (absolute_of prefix a)) xs ≡ map (λ a. s (absolute_of prefix a)) xs
seen_alike prefix s t [] h = refl
seen_alike prefix s t (x ∷ xs) h =
    let p = absolute_of prefix x in
    let others = map (absolute_of prefix) xs in
    ap (λ b. b ∷ map (λ a. t (absolute_of prefix a)) xs)
    (h p (or_left (nat_eq p p) (list_any (nat_eq p) others) (equals_itself p)))
    ∙ ap (λ bs. s p ∷ bs)
    (seen_alike prefix s t xs (λ a e. h a (or_right (nat_eq a p) (list_any (nat_eq a) others) e)))

-- they have the same bytes of operands
pub operands_alike : (s t : Storage) (ranges : List Range) (q : Progress)
    → ((a : ℕ) → is_among (operand_places ranges q) a ≡ true → t a ≡ s a)
    → operand_bytes q.cpu.prefix t ranges ≡ operand_bytes q.cpu.prefix s ranges
operands_alike s t [] q h = refl
operands_alike s t (r ∷ rs) q h =
    let first = places_from q.cpu.prefix r.first r.length in
    let others = operand_places rs q in
    ap (λ bs. bs ++ operand_bytes q.cpu.prefix t rs)
    (seen_alike q.cpu.prefix s t (from_up r.first r.length) (λ a e. h a (in_first a first others e)))
    ∙ ap (λ bs. bytes_seen q.cpu.prefix s r.first r.length ++ bs)
    (operands_alike s t rs q (λ a e. h a (in_second a first others e)))

-- ---- the fate

-- of so many bytes the first is there
pub first_there : (prefix : Option ℕ) (a n m : ℕ) → n ≡ suc m
    → is_among (places_from prefix a n) (absolute_of prefix a) ≡ true
first_there prefix a n m e =
    let p = absolute_of prefix a in
    ap (λ k. is_among (places_from prefix a k) p) e
    ∙ or_left (nat_eq p p) (is_among (places_from prefix (suc a) m) p) (equals_itself p)

-- the fate by what was fetched looks at the length of the instruction alone
fetched_alike : (text : List ℕ) (s t : Storage) (q : Progress) (u : Option ℕ) (i : Option Instr)
    → length_at (at_hand t q) ≡ length_at (at_hand s q) → fetched text t q u i ≡ fetched text s q u i
fetched_alike text s t q (Some code) i e = refl
fetched_alike text s t q None None e =
    ap (λ n. fate_after q.nest (Excepts record { code = operation; fetch = false; length = n })) e
fetched_alike text s t q None (Some i) e = refl

pub fate_alike : (text : List ℕ) (s t : Storage) (q : Progress)
    → LookAlike (is_among (text_places s q)) q.overlay s t
    → fate_by_progress text t q ≡ fate_by_progress text s q
unfolding fate_by_progress
fate_alike text s t q h =
    let prefix = q.cpu.prefix in
    let a = q.cpu.address in
    let below = seen_through q.overlay s in
    let other = seen_through q.overlay t in
    let refused = λ (m : ℕ). unfetched (accessible_pages prefix) (text_pages prefix text) a m in
    let n = length_at (at_hand s q) in
    let byte = below (absolute_of prefix a) in
    let some = length_some (nat_lt byte 64) (nat_lt byte 192) in
    let same : length_at (at_hand t q) ≡ n =
    ap length_by (h (absolute_of prefix a) (first_there prefix a n some.0 some.1)) in
    ap (λ m. fetched text t q (refused m) (reading_of (bytes_seen prefix other a m))) same
    ∙ ap (λ bytes. fetched text t q (refused n) (reading_of bytes))
    (seen_alike prefix below other (from_up a n) h)
    ∙ fetched_alike text s t q (refused n) (reading_of (bytes_seen prefix below a n)) same

-- ---- what is done

-- nothing of either storage has changed
abbrev unchanged : (s t : Storage) → AreStoredAlike s t s t
unchanged s t = record { stores = nothing; first = refl; second = refl }

unstored : (l : Local) (d : Done) (s t : Storage)
    → AreDoneAlike s t record { after = on l s; told = d } record { after = on l t; told = d }
unstored l d s t = record { local = refl; told = refl; storage = unchanged s t }

-- stores that an instruction makes are laid over both
abbrev laid : (s t : Storage) (stores : List Store)
    → AreStoredAlike s t (laid_over s stores) (laid_over t stores)
laid s t stores = record {
  stores = overlay_of stores;
  first = laid_is_seen stores s;
  second = laid_is_seen stores t;
}

closed_alike : (q : Progress) (nest : List Begin) (local : Local) (s t : Storage)
    → AreDoneAlike s t (closed_by q nest (on local s)) (closed_by q nest (on local t))
closed_alike q [] local s t = record {
  local = refl;
  told = refl;
  storage = record { stores = q.overlay; first = refl; second = refl };
}
closed_alike q (outermost ∷ inner) local s t = unstored _ _ s t

done_where : (live begin : Bool) (i : Instr) (ranges : List Range) (local : Local) (s t : Storage)
    (o : Outcome)
    → AreDoneAlike s t (executed_where live begin i ranges (on local s) o)
    (executed_where live begin i ranges (on local t) o)
done_where true begin i ranges local s t (Did c bytes) =
    let q = local.attempt in
    let next = advanced i ranges c (stores_of ranges bytes q) q in
    closed_alike next next.nest local s t
done_where true begin i ranges local s t (outcome.Overflowed c bytes) = unstored _ _ s t
done_where true begin i ranges local s t Divides = unstored _ _ s t
done_where true begin i ranges local s t (Aborts code) = unstored _ _ s t
done_where false true i ranges local s t (Did c bytes) = unstored _ _ s t
done_where false true i ranges local s t (outcome.Overflowed c bytes) = unstored _ _ s t
done_where false true i ranges local s t Divides = unstored _ _ s t
done_where false true i ranges local s t (Aborts code) = unstored _ _ s t
done_where false false i ranges local s t (Did c bytes) =
    record { local = refl; told = refl; storage = laid s t (stores_of ranges bytes local.attempt) }
done_where false false i ranges local s t (outcome.Overflowed c bytes) =
    record { local = refl; told = refl; storage = laid s t (stores_of ranges bytes local.attempt) }
done_where false false i ranges local s t Divides = unstored _ _ s t
done_where false false i ranges local s t (Aborts code) = unstored _ _ s t

-- what an instruction does next, by the bytes of its operands
pub outcome_alike : (i : Instr) (ranges : List Range) (q : Progress) (s t : Storage)
    → LookAlike (is_among (operand_places ranges q)) q.overlay s t
    → outcome_by t i ranges q ≡ outcome_by s i ranges q
outcome_alike i ranges q s t h =
    ap (one i q.cpu (length q.nest))
    (operands_alike (seen_through q.overlay s) (seen_through q.overlay t) ranges q h)

pub done_alike : (i : Instr) (ranges : List Range) (local : Local) (s t : Storage)
    → LookAlike (is_among (operand_places ranges local.attempt)) local.attempt.overlay s t
    → AreDoneAlike s t (executed i ranges (on local s)) (executed i ranges (on local t))
unfolding executed
done_alike i ranges local s t h =
    let q = local.attempt in
    let live = is_live q in
    let begin = begins (entry_at i.op.number) in
    subst (λ o. AreDoneAlike s t (executed_where live begin i ranges (on local s) (outcome_by s i ranges q))
    (executed_where live begin i ranges (on local t) o))
    (sym (outcome_alike i ranges q s t h))
    (done_where live begin i ranges local s t (outcome_by s i ranges q))
