-- Who waits behind an event that did not wait before it, and who waits no longer.
use Rattle.std.proofs.Common.{◌≡◌, ℕ, true, false, List, [], ◌∷◌, ◌++◌, sym, ap, ◌∙◌, subst}
use Rattle.std.specs.Prelude.{◌==◌, ◌||◌}
use Rattle.std.proofs.Math.Bool.{or-false}
use Rattle.std.proofs.lemmas.Bool.{true≢false, or_right, eqb-true}
use Rattle.std.proofs.lemmas.List.Folds.{list_any-append}
use Rattle.tx_ladder.specs.Waiting.{waits_in}
use Rattle.tx_journal.specs.declared.events.Event.{Event}
use Rattle.tx_meaning.specs.Limits.{Setting}
use Rattle.tx_meaning.specs.State.{State}
use Rattle.tx_meaning.specs.Stretches.{ends_transaction}
use Rattle.tx_meaning.specs.Turn.{happen}
use Rattle.tx_headline.specs.Queue.{Joins, HeadGoes, Stays, Leaves, GoesLast, QueueChanges}
use Rattle.tx_headline.proofs.Members.{waits_first}
use Rattle.tx_bounds.proofs.Stopping.{or_last}

-- ---- lists

-- whoever stands last instead of first waits as well
moved_last : (head : ℕ) (rest : List ℕ) (j : ℕ) → waits_in (rest ++ head ∷ []) j ≡ waits_in (head ∷ rest) j
moved_last head rest j =
    list_any-append (λ k. k == j) rest (head ∷ []) ∙ or_last (waits_in rest j) (head == j)

-- who is not in the first part is in the later one
in_the_later : (xs ys : List ℕ) (j : ℕ) → waits_in (xs ++ ys) j ≡ true → waits_in xs j ≡ false
    → waits_in ys j ≡ true
in_the_later xs ys j h off =
    ap (λ b. b || waits_in ys j) (sym off) ∙ sym (list_any-append (λ k. k == j) xs ys) ∙ h

-- ---- the queue

module _ (m : Setting) (s t : State) (e : Event) (queue : List ℕ) (j : ℕ) where
  -- nobody waits behind the event who was not in the queue with those that joined
  none_besides : HeadGoes m s t e queue → waits_in t.queue j ≡ true → waits_in queue j ≡ true
  none_besides (Stays is apart) h = ap (λ q. waits_in q j) (sym is) ∙ h
  none_besides (Leaves head rest before is ended) h =
      ap (λ q. waits_in q j) before
      ∙ or_right (head == j) (waits_in rest j) (ap (λ q. waits_in q j) (sym is) ∙ h)
  none_besides (GoesLast head rest before is apart outside) h =
      ap (λ q. waits_in q j) before ∙ sym (moved_last head rest j) ∙ ap (λ q. waits_in q j) (sym is) ∙ h

  -- who is gone from it was its head, and its transaction has ended
  gone_by_an_end : HeadGoes m s t e queue → waits_in queue j ≡ true → waits_in t.queue j ≡ false
      → ends_transaction s t j ≡ true
  gone_by_an_end (Stays is apart) here off =
      absurd (true≢false (sym here ∙ ap (λ q. waits_in q j) (sym is) ∙ off))
  gone_by_an_end (Leaves head rest before is ended) here off =
      let behind : waits_in rest j ≡ false = ap (λ q. waits_in q j) (sym is) ∙ off in
      let first : (head == j) ≡ true =
      sym (or-false (head == j)) ∙ ap (λ b. (head == j) || b) (sym behind)
      ∙ ap (λ q. waits_in q j) (sym before) ∙ here in
      subst (λ i. ends_transaction s t i ≡ true) (eqb-true head j first) ended
  gone_by_an_end (GoesLast head rest before is apart outside) here off =
      absurd (true≢false (sym here ∙ ap (λ q. waits_in q j) before ∙ sym (moved_last head rest j)
      ∙ ap (λ q. waits_in q j) (sym is) ∙ off))

-- who waits and did not wait before has joined
pub who_joins : (m : Setting) (s : State) (e : Event) (j : ℕ) → QueueChanges m s e
    → waits_in s.queue j ≡ false → waits_in (happen m e s).state.queue j ≡ true
    → Joins m s (happen m e s).state j
who_joins m s e j changes off h =
    let all = none_besides m s (happen m e s).state e (s.queue ++ changes.joined) j changes.head h in
    changes.joins j (in_the_later s.queue changes.joined j all off)

-- who waited and waits no longer has come to the end of a transaction
pub who_leaves : (m : Setting) (s : State) (e : Event) (j : ℕ) → QueueChanges m s e
    → waits_in s.queue j ≡ true → waits_in (happen m e s).state.queue j ≡ false
    → ends_transaction s (happen m e s).state j ≡ true
who_leaves m s e j changes h off =
    gone_by_an_end m s (happen m e s).state e (s.queue ++ changes.joined) j changes.head
    (waits_first s.queue changes.joined j h) off
