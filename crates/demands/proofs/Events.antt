-- Lists of events are lists of calls: what is demanded with saves and restores holds of the events alone.
use mathlib.Core.Path.{◌≡◌, refl, sym, ap, ◌∙◌, subst}
use mathlib.Core.List.{List, []}
use Rattle.demands.specs.Calls.{Log, empty, ◌▹◌, Call, event, refusal, gets, passed, answer, Rules, Images, Calls, event_calls, all_calls, Port, Reference, of_history}
use Rattle.refusal.specs.Table.{InTable}
use Rattle.demands.specs.Demands.{History, model_of, Save, Passes, Refused, after, Story, begins, adds, keeps, stays, returns, said, from, seen_from, ported, Proper, Demand1, heard, Demand2}
use Rattle.demands.proofs.Steps.{event-save, event-restore}

-- every list of events has a history: none of them is a restore
pub events-proper : (R : Rules) (port : Port R (event_calls R)) (es : Log R.Event) → Proper R (event_calls R) port es
events-proper R port empty = tt
events-proper R port (es ▹ e) = (events-proper R port es, λ b k z. absurd (event-restore e b refl k))

-- a reference without a model is asked about the history itself
pub history_model : (R : Rules) (Said : Type 0) (says : History R → R.Event → Said) (part : R.Answer → Said) (h : History R)
    → model_of R (of_history R Said says part) h ≡ h
unfolding model_of
history_model R Said says part empty = refl
history_model R Said says part (h ▹ e) = ap (λ (l : History R). l ▹ e) (history_model R Said says part h)

module _ (R : Rules) (I : Images R) (port : Port R (all_calls R I)) where
  abbrev E : Calls R
  E = event_calls R

  abbrev S : Calls R
  S = all_calls R I

  -- the port for events alone
  abbrev pub on_events : Port R (event_calls R)
  on_events s e = port s (event e)

  -- events as calls
  abbrev pub calls : Log R.Event → Log (Call R.Event)
  calls empty = empty
  calls (es ▹ e) = calls es ▹ event e

  from-calls : (s : R.State) (es : Log R.Event) → from R S port s (calls es) ≡ from R E on_events s es
  unfolding from
  from-calls s empty = refl
  from-calls s (es ▹ e) = ap (λ (t : R.State). (port t (event e)).state) (from-calls s es)

  seen-calls : (s : R.State) (es : Log R.Event) → seen_from R S port s (calls es) ≡ seen_from R E on_events s es
  unfolding seen_from
  seen-calls s empty = refl
  seen-calls s (es ▹ e) = rw (seen-calls s es, from-calls s es)

  pub story-calls : {es : Log R.Event} {h : History R} {xs : List (Save R)} → Story R E (ported R E on_events) es h xs → Story R S (ported R S port) (calls es) h xs
  story-calls begins = begins
  story-calls (adds st k z) = adds (story-calls st) k z
  story-calls (keeps {c = c} {l = l} st k z) = absurd (event-save c l refl k)
  story-calls (stays st n) = stays (story-calls st) n
  story-calls (returns {c = c} {x = x} st k m) = absurd (event-restore c x.wrote refl k)

  said-calls : (M : Reference R) {es : Log R.Event} {h : History R} {xs : List (Save R)} (st : Story R E (ported R E on_events) es h xs)
      → said R S M (story-calls st) ≡ said R E M st
  unfolding said story-calls
  said-calls M begins = refl
  said-calls M (adds {h = h} {e = e} st k z) = rw (said-calls M st)
  said-calls M (keeps {c = c} {l = l} st k z) = absurd (event-save c l refl k)
  said-calls M (stays st n) = said-calls M st
  said-calls M (returns {c = c} {x = x} st k m) = absurd (event-restore c x.wrote refl k)

  -- what holds of the chain after the calls holds of the chain after the events
  same-chain : (Q : R.State → Type 0) (es : Log R.Event) → Q (after R S port (calls es)) → Q (after R E on_events es)
  same-chain Q es q = subst Q (from-calls R.fresh es) q

  pub events-demand1 : Demand1 R S port → Demand1 R E on_events
  events-demand1 d = record {
    answered = λ es e.
        same-chain (λ s. Passes R E s e → (on_events s e).seen.reply ≡ passed (answer (R.answers s e))) es
        (d.answered (calls es) (event e));
    refused = λ es e.
        same-chain (λ s. Refused R E s e → on_events s e ≡ gets (refusal (R.refuses s e)) [] s) es
        (d.refused (calls es) (event e));
    numbered = λ es e. same-chain (λ s. Refused R E s e → InTable (R.refuses s e)) es (d.numbered (calls es) (event e));
    finite = λ es. same-chain R.Finite es (d.finite (calls es));
  }

  pub events-demand2 : (M : Reference R) → Demand2 R S port M → Demand2 R E on_events M
  events-demand2 M d = record {
    equal = λ t.
        ap (heard R M) (sym (seen-calls R.fresh t.calls))
        ∙ d.equal (record { calls = calls t.calls; history = t.history; saves = t.saves; story = story-calls t.story })
        ∙ said-calls M t.story;
  }
