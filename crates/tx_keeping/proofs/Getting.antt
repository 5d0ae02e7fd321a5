-- The lines of a turn in turn: those of the meaning, and at the end all are there.
use Rattle.std.proofs.Common.{◌≡◌, ◌≢◌, ℕ, ◌<◌, Bool, true, false, eqb, List, [], ◌∷◌}
use Rattle.std.proofs.Common.{Option, Some, None, refl, sym, ap, subst, ◌∙◌, ◌⊎◌, inl, inr}
use Rattle.std.proofs.lemmas.Bool.{cases_eq, cases_lt, cases_Bool, or_right, or_left, eq-eqb}
use Rattle.std.proofs.lemmas.List.Kept.{AllPairs-from_increasing}
use borrow.Enum.Arm.{by_way}
use Rattle.tx_footprint.specs.Touched.{Sets}
use Rattle.line_table.specs.declared.table.Mode.{Mode}
use Rattle.line_table.specs.declared.table.Mode.TheVariants.{Shared, Exclusive}
use Rattle.line_table.specs.Holders.{Holders, against, is_against}
use Rattle.line_table.proofs.Against.{against-rising, from_against, in_against}
use Rattle.tx_progress.specs.Local.{Local}
use Rattle.tx_meaning.specs.declared.asking.Need.{Need}
use Rattle.tx_meaning.specs.declared.asking.Reject.{Reject}
use Rattle.tx_meaning.specs.Limits.{Setting}
use Rattle.tx_meaning.specs.Meaning.{IsSetting}
use Rattle.tx_meaning.specs.State.{cpus_of}
use Rattle.tx_meaning.specs.Changes.{granting, is_needed}
use Rattle.tx_meaning.specs.Asking.{Asked, is_there, unless_rejected, take_line, get_unless, get_line}
use Rattle.tx_meaning.specs.Asking.{get_each}
use Rattle.tx_keeping.specs.Kept.{Kept, kept_footprint}
use Rattle.tx_keeping.specs.Asking.{KAsked, k_ask_each, k_unless_rejected, k_granting, k_take_line}
use Rattle.tx_keeping.specs.Asking.{k_get_unless}
use Rattle.tx_keeping.specs.Asking.{k_get_line, k_get_each}
use Rattle.tx_keeping.proofs.Truth.{Truth, footprint_is}
use Rattle.tx_keeping.proofs.Holding.{granting_holds, is_granted, there_now}
use Rattle.tx_keeping.proofs.Moves.{IsGood, restated, same_numbers}
use Rattle.tx_keeping.proofs.Asking.{state_of, AskKeeps, asks_none, asks_then, asks_restated, AllAsked}
use Rattle.tx_keeping.proofs.Asking.{all_asked}
use Rattle.tx_keeping.proofs.Asking.{AreAgainst}
use Rattle.tx_keeping.proofs.Room.{AllWithin, HasRoom, shrinks_within, granting_within}

-- a need is one of a list
abbrev pub Among : Need → List Need → Type 0
Among n [] = ⊥
Among n (x ∷ rest) = (n ≡ x) ⊎ Among n rest

pub among_needed : (needs : List Need) (n : Need) → Among n needs → is_needed needs n.line ≡ true
among_needed [] n h = absurd h
among_needed (x ∷ rest) n (inl e) =
    or_left (eqb x.line n.line) (is_needed rest n.line) (eq-eqb x.line n.line (ap (λ (n : Need). n.line)
    (sym e)))
among_needed (x ∷ rest) n (inr h) =
    or_right (eqb x.line n.line) (is_needed rest n.line) (among_needed rest n h)

-- ---- who stands against the request

pub all_against : (cpus : ℕ) (held : Holders) (i : ℕ) (need : Need)
    → AreAgainst i need (against cpus held i need.line need.mode) held
all_against cpus held i need = record {
  apart = AllPairs-from_increasing (against cpus held i need.line need.mode)
      (against-rising cpus held i need.line need.mode);
  others = λ x c. (from_against cpus held i need.line need.mode x c).1;
  stand = λ x c. (from_against cpus held i need.line need.mode x c).2;
}

unknown_not_against : (mode : Mode) (h : Option Mode) → h ≡ None → is_against mode h ≡ false
unknown_not_against mode h e = ap (is_against mode) e

-- nobody does, where all who did were asked
none_left : (m : Setting) (i : ℕ) (need : Need) (k : Kept) (q : KAsked) → IsGood m k
    → AllAsked m i need (against (cpus_of m) k.state.held i need.line need.mode) k q → q.reject ≡ None
    → (x : ℕ) → x ≢ i → is_against need.mode (q.kept.state.held x need.line) ≡ false
none_left m i need k q g all none x ne =
    let js = against (cpus_of m) k.state.held i need.line need.mode in
    by_way (cases_lt x (cpus_of m))
    (λ lt. by_way (cases_Bool (is_against need.mode (k.state.held x need.line)))
    (λ stands. all.clears none x (in_against (cpus_of m) k.state.held i need.line need.mode x
    (lt, ne, stands)))
    (λ off. ap (is_against need.mode) (all.others x
    (λ c. let n : false ≡ true = sym off
    ∙ (from_against (cpus_of m) k.state.held i need.line need.mode x c).2 in
    cc) need.line) ∙ off))
    (λ far. unknown_not_against need.mode (q.kept.state.held x need.line)
    (all.good.holds.known x need.line far))

-- ---- a line is granted

pub granting_good : (m : Setting) (i : ℕ) (needs : List Need) (need : Need) (k : Kept) → IsGood m k
    → i < cpus_of m
    → is_there need.mode (k.state.held i need.line) ≡ false
    → ((x : ℕ) → x ≢ i → is_against need.mode (k.state.held x need.line) ≡ false)
    → IsGood m (k_granting i needs need k)
unfolding k_granting
granting_good m i needs need k g within off none = record {
  truth = restated m k (record k.state {
    held = granting i
        (kept_footprint k i) needs need k.state.held;
  }) g.truth
      refl (λ x. same_numbers (k.state.numbers x));
  holds = granting_holds (cpus_of m) k.state.held (kept_footprint k) i needs need g.holds within off none;
}

-- ---- one line

-- what is there stays there
abbrev pub StaysThere : ℕ → List Need → Holders → Holders → Type 0
StaysThere i needs held after =
    (n : Need) → Among n needs → is_there n.mode (held i n.line) ≡ true
    → is_there n.mode (after i n.line) ≡ true

pub record LineGot (m : Setting) (i : ℕ) (needs : List Need) (need : Need) (k : Kept)
    (q : KAsked) : Type 0 where
  pub good : IsGood m q.kept
  pub keeps : AskKeeps i k q.kept
  pub there : q.reject ≡ None → is_there need.mode (q.kept.state.held i need.line) ≡ true
  pub within : HasRoom (kept_footprint k i) needs → is_needed needs need.line ≡ true → AllWithin k.state.held
      → AllWithin q.kept.state.held
  pub stays : StaysThere i needs k.state.held q.kept.state.held

there_more : (asked mode : Mode) (h : Option Mode) → is_there mode h ≡ false → is_there asked h ≡ true
    → is_there asked (Some mode) ≡ true
there_more asked Exclusive h off on = refl
there_more Shared Shared h off on = refl
there_more Exclusive Shared None off on = let n : false ≡ true = on in absurd (cc)
there_more Exclusive Shared (Some Shared) off on = let n : false ≡ true = on in absurd (cc)
there_more Exclusive Shared (Some Exclusive) off on = let n : true ≡ false = off in absurd (cc)

granting_stays : (i : ℕ) (sets : Sets) (needs : List Need) (need : Need) (held : Holders)
    → is_there need.mode (held i need.line) ≡ false
    → StaysThere i needs held (granting i sets needs need held)
unfolding granting
granting_stays i sets needs need held off n among on =
    let got = is_granted held i sets needs need in
    by_way (cases_eq n.line need.line)
    (λ e. ap (λ l. is_there n.mode (granting i sets needs need held i l)) e
    ∙ ap (is_there n.mode) got.here
    ∙ there_more n.mode need.mode (held i need.line) off (ap (λ l. is_there n.mode (held i l)) (sym e) ∙ on))
    (λ ne. ap (is_there n.mode) (got.needed n.line ne (among_needed needs n among)) ∙ on)

own_held : (m : Setting) (i : ℕ) (need : Need) (k : Kept) (q : KAsked) (line : ℕ)
    → AllAsked m i need (against (cpus_of m) k.state.held i need.line need.mode) k q
    → q.kept.state.held i line ≡ k.state.held i line
own_held m i need k q line all =
    all.others i (λ c. (from_against (cpus_of m) k.state.held i need.line need.mode i c).1 refl) line

take_is : (m : Setting) (i : ℕ) (needs : List Need) (need : Need) (k : Kept) → Truth m k
    → take_line m i needs need k.state ≡ state_of (k_take_line i needs need k)
unfolding k_granting
take_is m i needs need k t =
    ap (λ (sets : Sets). record {
      state = record k.state { held = granting i sets needs need k.state.held };
      reject = None;
    }) (footprint_is m k t i)

-- behind the questions
take_on : (m : Setting) (i : ℕ) (needs : List Need) (need : Need) (k : Kept) (q : KAsked) (r : Option Reject)
    → q.reject ≡ r → IsGood m k → i < cpus_of m → is_there need.mode (k.state.held i need.line) ≡ false
    → AllAsked m i need (against (cpus_of m) k.state.held i need.line need.mode) k q
    → LineGot m i needs need k (k_unless_rejected r q.kept (k_take_line i needs need))
unfolding k_granting
take_on m i needs need k q None none g within off all =
    let held = q.kept.state.held in
    let sets = kept_footprint q.kept i in
    let own : (line : ℕ) → held i line ≡ k.state.held i line = λ line. own_held m i need k q line all in
    let off' : is_there need.mode (held i need.line) ≡ false = ap (is_there need.mode) (own need.line)
    ∙ off in
    let got = is_granted held i sets needs need in
    record {
      good = granting_good m i needs need q.kept all.good within off' (none_left m i need k q g all none);
      keeps = asks_then i k q.kept (k_granting i needs need q.kept) all.keeps
          (asks_restated i q.kept (record q.kept.state { held = granting i sets needs need held }) refl
          (λ x. refl));
      within = λ room needed most.
          granting_within held i sets needs need (shrinks_within k.state.held held all.shrinks most)
          (subst (λ (l : Local). HasRoom l.attempt.footprint needs) (sym all.keeps.own.local) room) needed;
      there = λ e. ap (is_there need.mode) got.here ∙ there_now need.mode;
      stays = λ n among on. granting_stays i sets needs need held off' n among
          (ap (is_there n.mode) (own n.line) ∙ on);
    }
take_on m i needs need k q (Some r) some g within off all = record {
  good = all.good;
  keeps = all.keeps;
  within = λ room needed most. shrinks_within k.state.held q.kept.state.held all.shrinks most;
  there = λ e. let n : Some r ≡ None = e in absurd (cc);
  stays = λ n among on. ap (is_there n.mode) (own_held m i need k q n.line all) ∙ on;
}

take_on_is : (m : Setting) (i : ℕ) (needs : List Need) (need : Need) (q : KAsked) (r : Option Reject)
    → Truth m q.kept
    → unless_rejected r q.kept.state (take_line m i needs need)
    ≡ state_of (k_unless_rejected r q.kept (k_take_line i needs need))
take_on_is m i needs need q None t = take_is m i needs need q.kept t
take_on_is m i needs need q (Some r) t = refl

pub record LineIs (m : Setting) (i : ℕ) (needs : List Need) (need : Need) (k : Kept) (asked : Asked)
    (q : KAsked)
    : Type 0 where
  pub is : asked ≡ state_of q
  pub got : LineGot m i needs need k q

line_by : (m : Setting) (s : IsSetting m) (i : ℕ) (needs : List Need) (need : Need) (k : Kept) (b : Bool)
    → IsGood m k → i < cpus_of m → is_there need.mode (k.state.held i need.line) ≡ b
    → LineIs m i needs need k (get_unless b m i needs need k.state) (k_get_unless b m i needs need k)
line_by m s i needs need k true g within there = record {
  is = refl;
  got = record {
    good = g;
    keeps = asks_none i k;
    there = λ e. there;
    within = λ room needed most. most;
    stays = λ n among on. on;
  };
}
line_by m s i needs need k false g within off =
    let js = against (cpus_of m) k.state.held i need.line need.mode in
    let all = all_asked m s i need js k g (all_against (cpus_of m) k.state.held i need) in
    let q = k_ask_each i need js k in
    record {
      is = ap (λ (a : Asked). unless_rejected a.reject a.state (take_line m i needs need)) all.is
          ∙ take_on_is m i needs need q q.reject all.good.truth;
      got = take_on m i needs need k q q.reject refl g within off all;
    }

pub line_got : (m : Setting) (s : IsSetting m) (i : ℕ) (needs : List Need) (need : Need) (k : Kept)
    → IsGood m k → i < cpus_of m
    → LineIs m i needs need k (get_line m i needs need k.state) (k_get_line m i needs need k)
unfolding get_line k_get_line
line_got m s i needs need k g within =
    line_by m s i needs need k (is_there need.mode (k.state.held i need.line)) g within refl

-- ---- all lines

pub record LinesGot (m : Setting) (i : ℕ) (needs rest : List Need) (k : Kept) (q : KAsked) : Type 0 where
  pub is : get_each m i needs rest k.state ≡ state_of q
  pub good : IsGood m q.kept
  pub keeps : AskKeeps i k q.kept
  pub there : q.reject ≡ None → (n : Need) → Among n rest
      → is_there n.mode (q.kept.state.held i n.line) ≡ true
  pub within : HasRoom (kept_footprint k i) needs → AllWithin k.state.held → AllWithin q.kept.state.held
  pub stays : StaysThere i needs k.state.held q.kept.state.held

lines_on : (m : Setting) (i : ℕ) (needs : List Need) (need : Need) (rest : List Need) (k : Kept) (q : KAsked)
    (r : Option Reject) → q.reject ≡ r → Among need needs
    → LineIs m i needs need k (get_line m i needs need k.state) q
    → LinesGot m i needs rest q.kept (k_get_each m i needs rest q.kept)
    → LinesGot m i needs (need ∷ rest) k (k_unless_rejected r q.kept (k_get_each m i needs rest))
unfolding get_each
lines_on m i needs need rest k q None none among one all = record {
  is = ap (λ (a : Asked). unless_rejected a.reject a.state (get_each m i needs rest)) one.is
      ∙ ap (λ r. unless_rejected r q.kept.state (get_each m i needs rest)) none ∙ all.is;
  good = all.good;
  keeps = asks_then i k q.kept _ one.got.keeps all.keeps;
  within = λ room most. all.within
      (subst (λ (l : Local). HasRoom l.attempt.footprint needs) (sym one.got.keeps.own.local) room)
      (one.got.within room (among_needed needs need among) most);
  there = λ e n h. by_way h
      (λ same. all.stays n (subst (λ n. Among n needs) (sym same) among)
      (ap (λ (n : Need). is_there n.mode (q.kept.state.held i n.line)) same ∙ one.got.there none))
      (λ later. all.there e n later);
  stays = λ n h on. all.stays n h (one.got.stays n h on);
}
lines_on m i needs need rest k q (Some r) some among one all = record {
  is = ap (λ (a : Asked). unless_rejected a.reject a.state (get_each m i needs rest)) one.is
      ∙ ap (λ r. unless_rejected r q.kept.state (get_each m i needs rest)) some;
  good = one.got.good;
  keeps = one.got.keeps;
  within = λ room most. one.got.within room (among_needed needs need among) most;
  there = λ e n h. let x : Some r ≡ None = e in absurd (cc);
  stays = one.got.stays;
}

pub lines_got : (m : Setting) (s : IsSetting m) (i : ℕ) (needs rest : List Need) (k : Kept) → IsGood m k
    → i < cpus_of m → ((n : Need) → Among n rest → Among n needs)
    → LinesGot m i needs rest k (k_get_each m i needs rest k)
unfolding get_each k_get_each
lines_got m s i needs [] k g within sub = record {
  is = refl;
  good = g;
  keeps = asks_none i k;
  within = λ room most. most;
  there = λ e n h. absurd h;
  stays = λ n h on. on;
}
lines_got m s i needs (need ∷ rest) k g within sub =
    let one = line_got m s i needs need k g within in
    let q = k_get_line m i needs need k in
    lines_on m i needs need rest k q q.reject refl (sub need (inl refl)) one
    (lines_got m s i needs rest q.kept one.got.good within (λ n h. sub n (inr h)))
