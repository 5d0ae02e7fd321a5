-- What another CPU and other storage are once they are given what steps have made.
use Rattle.std.proofs.Common.{◌≡◌, ℕ, Bool, true, false, List, refl, sym, ap, ◌∙◌}
use Rattle.std.specs.Prelude.{if◌then◌else◌}
use Rattle.std.proofs.lemmas.Bool.{true≢false}
use Rattle.store_cache.specs.Overlay.{has_block}
use Rattle.store_cache.proofs.Blocks.{has_block-nothing}
use Rattle.tx_footprint.specs.Touched.{Sets}
use Rattle.tx_serial.specs.Flat.{Storage}
use Rattle.tx_progress.specs.Local.{Local, Beside}
use Rattle.tx_progress.specs.Progress.{Progress, is_live, resting, seen_through}
use Rattle.tx_cpu.specs.Parts.{local_of, goes_on_as}
use Rattle.tx_marks.specs.Away.{ran, touched, stored, IsClear, GoAway}
use Rattle.tx_marks.specs.Places.{over, LookAlike}
use Rattle.tx_marks.specs.Stranger.{GoesOnLike, SeeAlike, gone_on, left_as, upon, waiting, only_at}
use Rattle.tx_marks.proofs.Along.{makes, go_too}
use Rattle.tx_marks.proofs.Outside.{own_turns, own_go}
use Rattle.tx_marks.proofs.Strangers.{stranger_makes, stranger_goes}
use Rattle.tx_marks.proofs.Turning.{all_left}
use Rattle.tx_marks.proofs.Waiting.{waits_so}
use Rattle.tx_marks.specs.Marks.{mode_in}
use Rattle.tx_marks.specs.Own.{given, is_touched, bytes_at}
use Rattle.tx_marks.specs.Traces.{is_stored}
use Rattle.tx_run.specs.Made.{Made, from}
use Rattle.tx_run.proofs.Adding.{with_stores}
use Rattle.tx_run.proofs.Laid.{laid-stored, laid-waits, turns-have}
use Rattle.tx_run.proofs.Texts.{AreSteps}

-- the CPU before the first step, and behind the last
abbrev start : Made → Local
start m = local_of m.start

abbrev reached : Made → Local
reached m = local_of m.reached

-- it has completed as much as the one that it goes on as
pub goes-counted : (other own : Local) → (goes_on_as other own).attempt.count ≡ other.attempt.count
goes-counted other own = by_live (is_live other.attempt)
  where
    by_live : (live : Bool) → (if live then (record other.attempt {
      overlay = own.attempt.overlay;
      lasting = own.attempt.lasting;
      resumes_at = own.attempt.resumes_at;
    }) else other.attempt).count ≡ other.attempt.count
    by_live true = refl
    by_live false = refl

module _ (text : List ℕ) (m : Made) (made : AreSteps text m) (own : Local)
    (like : GoesOnLike (local_of m.start).attempt own.attempt)
  where
    -- the steps neither begin nor end a transaction
    pub stays : is_live (reached m).attempt ≡ is_live (start m).attempt
    stays =
        sym (ap (λ (b : Beside). is_live b.local.attempt) made.makes)
        ∙ (all_left text (mode_in m.needed) m.steps (from m) made.away).live

    pub alike-live : is_live own.attempt ≡ is_live (reached m).attempt
    alike-live = ap (λ n. is_live (record own.attempt { count = n })) like.count ∙ sym stays

    -- ---- blocks of what the other CPU has stored

    covered-by : (live : Bool) → is_live (start m).attempt ≡ live
        → (is_live own.attempt ≡ false → own.attempt ≡ resting own.attempt.cpu)
        → ((block : ℕ) → has_block own.attempt.overlay block ≡ true → own.attempt.footprint.blocks block ≡ true)
        → (block : ℕ) → has_block own.attempt.overlay block ≡ true → (reached m).attempt.footprint.blocks block ≡ true
    covered-by true is rests blocks block h =
        sym (ap (λ (b : Beside). b.local.attempt.footprint.blocks block) made.makes)
        ∙ turns-have text (mode_in m.needed) m.steps (from m) block is made.away
        (sym (ap (λ (s : Sets). s.blocks block) like.footprint) ∙ blocks block h)
    covered-by false is rests blocks block h =
        let bare = rests (alike-live ∙ stays ∙ is) in
        absurd (true≢false (sym h ∙ ap (λ (q : Progress). has_block q.overlay block) bare ∙ has_block-nothing block))

    pub covered : (is_live own.attempt ≡ false → own.attempt ≡ resting own.attempt.cpu)
        → ((block : ℕ) → has_block own.attempt.overlay block ≡ true → own.attempt.footprint.blocks block ≡ true)
        → (block : ℕ) → has_block own.attempt.overlay block ≡ true → (reached m).attempt.footprint.blocks block ≡ true
    covered rests blocks = covered-by (is_live (start m).attempt) refl rests blocks

module _ (text : List ℕ) (m : Made) (made : AreSteps text m) (own : Local) (t : Storage)
    (like : GoesOnLike (local_of m.start).attempt own.attempt)
    (alike : SeeAlike (is_touched m.own) (local_of m.start).attempt.overlay (given m.own) own.attempt.overlay t)
  where
    abbrev made_of : Beside
    made_of = ran text m.steps (from m)

    local-is : made_of.local ≡ reached m
    local-is = ap (λ (b : Beside). b.local) made.makes

    storage-is : made_of.storage ≡ bytes_at m.own.now
    storage-is = ap (λ (b : Beside). b.storage) made.makes

    looks : SeeAlike (touched text m.steps (from m)) (start m).attempt.overlay (given m.own) own.attempt.overlay t
    looks a h = alike a (made.marks a ∙ h)

    -- ---- inside a transaction

    goes-live : is_live (reached m).attempt ≡ true → goes_on_as (reached m) own ≡ gone_on (reached m) own.attempt.overlay own
    goes-live live = ap (λ b. record own {
      cpu = if b then own.cpu else (reached m).cpu;
      attempt =
          if b then (record (reached m).attempt {
            overlay = own.attempt.overlay;
            lasting = own.attempt.lasting;
            resumes_at = own.attempt.resumes_at;
          }) else (reached m).attempt;
    }) live

    waits-are : is_live (start m).attempt ≡ true
        → waiting text m.steps (from m) ≡ only_at (is_stored m.traces) (reached m).attempt.overlay
    waits-are live i a =
        (waits_so text (mode_in m.needed) m.steps (from m) a live made.away
        ∙ ap (λ b. only_at (λ x. b) made_of.local.attempt.overlay a)
        (sym (laid-waits text (mode_in m.needed) m.steps (from m) a made.away live) ∙ sym (made.stored a))
        ∙ ap (λ (l : Local). only_at (is_stored m.traces) l.attempt.overlay a) local-is) i

    pub given-live : is_live (reached m).attempt ≡ true → is_live (start m).attempt ≡ true
        → ◌≡◌ {A = Beside} (record { local = with_stores m.traces (reached m) (goes_on_as (reached m) own); storage = t })
        (ran text m.steps record { local = own; storage = t })
    given-live live began =
        let all : ran text m.steps record { local = own; storage = t } ≡ record {
          local = gone_on made_of.local (upon (waiting text m.steps (from m)) own.attempt.overlay) own;
          storage = t;
        } = stranger_makes text (mode_in m.needed) (start m) own (given m.own) t like began m.steps made.away looks in
        ap (λ (l : Local). record { local = with_stores m.traces (reached m) l; storage = t }) (goes-live live)
        ∙ sym (all ∙ (λ i. record {
          local = gone_on (local-is i) (upon (waits-are began i) own.attempt.overlay) own;
          storage = t;
        }))

    pub goes-live-too : is_live (start m).attempt ≡ true
        → GoAway text (mode_in m.needed) m.steps record { local = own; storage = t }
    goes-live-too began =
        stranger_goes text (mode_in m.needed) (start m) own (given m.own) t like began m.steps made.away looks

    -- ---- outside

    goes-rest : is_live (reached m).attempt ≡ false → goes_on_as (reached m) own ≡ left_as (reached m) own
    goes-rest rests = ap (λ b. record own {
      cpu = if b then own.cpu else (reached m).cpu;
      attempt =
          if b then (record (reached m).attempt {
            overlay = own.attempt.overlay;
            lasting = own.attempt.lasting;
            resumes_at = own.attempt.resumes_at;
          }) else (reached m).attempt;
    }) rests

    stores-are : is_live (start m).attempt ≡ false → (s : Storage) → ((a : ℕ) → s a
        ≡ over (is_stored m.traces) (bytes_at m.own.now) t a)
        → s ≡ over (stored text m.steps (from m)) made_of.storage t
    stores-are rests s laid i a =
        (laid a
        ∙ ap (λ b. if b then bytes_at m.own.now a else t a)
        (made.stored a ∙ laid-stored text (mode_in m.needed) m.steps (from m) a made.away rests)
        ∙ sym (ap (λ (x : Storage). over (stored text m.steps (from m)) x t a) storage-is)) i

    -- the same CPU, for which something else is left to do
    record IsOwn : Type 0 where
      pub attempt : own.attempt ≡ (start m).attempt
      pub cpu : own.cpu ≡ (start m).cpu
      pub clear : IsClear (start m).attempt
      pub seen : LookAlike (touched text m.steps (from m)) (start m).attempt.overlay (given m.own) t

    is-own : (start m).attempt ≡ resting (start m).attempt.cpu → own.attempt ≡ resting own.attempt.cpu
        → (start m).cpu ≡ (start m).attempt.cpu → own.cpu ≡ own.attempt.cpu → IsOwn
    is-own none others settled own_settled =
        let same : own.attempt ≡ (start m).attempt = others ∙ ap resting like.cpu ∙ sym none in
        record {
          attempt = same;
          cpu = own_settled ∙ like.cpu ∙ sym settled;
          clear = λ h a. ap (λ (q : Progress). q.overlay a) none;
          seen = λ a h. sym (ap (λ (q : Progress). seen_through q.overlay t a) same) ∙ looks a h;
        }

    pub goes-outside-too : is_live (start m).attempt ≡ false
        → (start m).attempt ≡ resting (start m).attempt.cpu → own.attempt ≡ resting own.attempt.cpu
        → (start m).cpu ≡ (start m).attempt.cpu → own.cpu ≡ own.attempt.cpu
        → GoAway text (mode_in m.needed) m.steps record { local = own; storage = t }
    goes-outside-too began none others settled own_settled =
        let held = mode_in m.needed in
        let is = is-own none others settled own_settled in
        own_go text held (start m) own t began is.cpu is.attempt m.steps
        (go_too text held m.steps (start m) (given m.own) t is.clear made.away is.seen)

    pub given-outside : is_live (reached m).attempt ≡ false → is_live (start m).attempt ≡ false
        → (start m).attempt ≡ resting (start m).attempt.cpu → own.attempt ≡ resting own.attempt.cpu
        → (start m).cpu ≡ (start m).attempt.cpu → own.cpu ≡ own.attempt.cpu
        → (s : Storage) → ((a : ℕ) → s a ≡ over (is_stored m.traces) (bytes_at m.own.now) t a)
        → ◌≡◌ {A = Beside} (record { local = goes_on_as (reached m) own; storage = s })
        (ran text m.steps record { local = own; storage = t })
    given-outside rests began none others settled own_settled s laid =
        let held = mode_in m.needed in
        let is = is-own none others settled own_settled in
        let first = makes text held m.steps (start m) (given m.own) t is.clear made.away is.seen in
        let away = go_too text held m.steps (start m) (given m.own) t is.clear made.away is.seen in
        let all = own_turns text held (start m) own t began is.cpu is.attempt m.steps away in
        (λ i. record { local = goes-rest rests i; storage = stores-are began s laid i })
        ∙ sym (all ∙ (λ i. record { local = left_as (first i).local own; storage = (first i).storage })
        ∙ (λ i. record {
          local = left_as (local-is i) own;
          storage = over (stored text m.steps (from m)) made_of.storage t;
        }))
