-- A load leaves its tasks standing in one way.
use Rattle.std.proofs.Common.{◌≡◌, ◌≢◌, ◌⊎◌, inl, inr, ℕ, ◌+◌, pos, codes, Bool, true, false, List, [], ◌∷◌, ◌++◌, Option, Some, None, option_and_then, refl, sym, ◌∙◌, ap, subst, subst₂, if◌then◌else◌}
use Rattle.history.specs.Histories.{end_state, IsLegal}
use Rattle.history.specs.Asks.{IsAsk}
use Rattle.http_wire.specs.Stream.{Ending, Messages, stopped, closed, full}
use Rattle.http_wire.specs.declared.message.Message.{Message}
use Rattle.http_wire.specs.declared.message.Wire.TheVariants as wire
use Rattle.route_table.specs.Fits.{NoTwoFit}
use Rattle.farm_text.specs.Document.{Document, text, whole, get, data_of}
use Rattle.farm_text.specs.Reading.{IsJson}
use Rattle.api_routes.specs.Routes.{IsCallOf}
use Rattle.task_index.specs.Due.{is_due}
use Rattle.farm_rows.specs.Summary.{summary_of}
use Rattle.farm_rows.specs.declared.summary.Summary.{Summary}
use Rattle.farm_machine.specs.Changes.{moment_of}
use Rattle.farm_asks.specs.Questions.{Asking}
use Rattle.farm_machine.specs.Entry.{finished, out_of_memory, disk_failed, was_halted, Entry, tick, call}
use Rattle.farm_core.specs.Diskless.{HasNoDisk}
use Rattle.farm_machine.specs.Judgement.{Judgement}
use Rattle.farm_machine.specs.State.{State, empty_state}
use Rattle.farm_machine.specs.Step.{farm_rules, lawful, asked, reply as reply_in}
use Rattle.farm_machine.specs.Verdict.{IsVerdict}
use Rattle.farm_asks.specs.declared.reply.Reply.{Reply}
use Rattle.farm_asks.specs.declared.reply.Reply.TheVariants.{Answered, OutOfMemory}
use Rattle.farm_server.specs.Served.{Ask, messages_of, questions_of, AreRouted, reply_texts, EndsAs}
use Rattle.farm_server.specs.declared.served.Served.TheVariants.{Closed, Full}
use Rattle.farm_server.specs.declared.served.TheConstants.{REQUESTS}
use Rattle.farm_bulk.specs.Bulk.{creations, after_draws, parts_of, AreCreated, Works, ends, goes_on, IsBulk}
use Rattle.farm_bulk.specs.Connections.{AreAtMidnight, AreAnswered, Converses}
use Rattle.farm_bulk.specs.Farm.{open_farm}
use Rattle.load_requests.specs.Generator.{begun, next, drawn}
use Rattle.farm_bulk.specs.Replies.{first_item, Tells, IsTold}
use Rattle.load_requests.specs.Requests.{claim_text, report_text}
use Rattle.load_requests.specs.declared.requests.ClaimedRun.{ClaimedRun}
use Rattle.farm_bulk.proofs.CallLemmas.{OneDocument, call_one}
use Rattle.farm_bulk.proofs.LineLemmas.{IsLastLine-one}

-- the laws of what a load goes through
pub record Laws : Type 0 where
  pub document : OneDocument
  pub routes : NoTwoFit
  pub messages : (room : ℕ) (bytes : List ℕ) (some others : List Message) (end ending : Ending) → Messages room bytes some end → Messages room bytes others ending → (some ≡ others) × (end ≡ ending)
  pub verdict : (state : State) (asking : Asking) (judgement other : Judgement) → IsVerdict state asking judgement → IsVerdict state asking other → judgement ≡ other

some_is : {A : Type 0} (a b : A) → Some a ≡ Some b → a ≡ b
some_is a b e = cc

-- ---- one ask

-- a call that was not out of memory, and was judged so
record IsJudged (state : State) (question : Asking) (reply : Reply) (made : Entry) : Type 0 where
  judgement : Judgement
  is : made ≡ call question (finished judgement)
  verdict : IsVerdict state question judgement
  told : reply ≡ Answered judgement.answer

judged : (state : State) (question : Asking) (reply : Reply) (made : Entry) → lawful state made → asked made ≡ Some question → reply_in state made ≡ Some reply → HasNoDisk made → reply ≢ OutOfMemory → IsJudged state question reply made
judged state question reply (tick moment) may is told none plenty = absurd cc
judged state question reply (call asking out_of_memory) may is told none plenty = absurd (plenty (sym (some_is OutOfMemory reply told)))
judged state question reply (call asking disk_failed) may is told none plenty = absurd none
judged state question reply (call asking was_halted) may is told none plenty = absurd none
judged state question reply (call asking (finished judgement)) may is told none plenty =
    let same = some_is asking question is in
    record {
      judgement = judgement;
      is = ap (λ (q : Asking). call q (finished judgement)) same;
      verdict = subst (λ (q : Asking). IsVerdict state q judgement) same may.became.verdict;
      told = sym (some_is (Answered judgement.answer) reply told);
    }

-- nothing is due at the moment of a question that is asked so
due_at : (state : State) (question asking : Asking) → asking ≡ question → is_due state.contents (moment_of state.contents asking) ≡ false → false ≡ is_due state.contents (moment_of state.contents question)
due_at state question asking same none = sym (subst (λ (q : Asking). is_due state.contents (moment_of state.contents q) ≡ false) same none)

-- a tick came just where something was due
due_by : (state : State) (question : Asking) (made : Entry) (ticked : Bool) → asked made ≡ Some question → HasNoDisk made → IsLegal farm_rules state ((if ticked then tick (moment_of state.contents question) ∷ [] else []) ++ made ∷ []) → ticked ≡ is_due state.contents (moment_of state.contents question)
unfolding farm_rules
due_by state question made true is none legal = sym legal.0.due
due_by state question (tick moment) false is none legal = absurd cc
due_by state question (call asking (finished judgement)) false is none legal = due_at state question asking (some_is asking question is) legal.0.nothing_due
due_by state question (call asking out_of_memory) false is none legal = due_at state question asking (some_is asking question is) legal.0.nothing_due
due_by state question (call asking disk_failed) false is none legal = absurd none
due_by state question (call asking was_halted) false is none legal = absurd none

-- the rest of a history is legal from where its front ends
legal_last : (state : State) (front : List Entry) (made : Entry) → IsLegal farm_rules state (front ++ made ∷ []) → lawful (end_state farm_rules state front) made
unfolding farm_rules
legal_last state [] made legal = legal.0
legal_last state (entry ∷ front) made legal = legal_last (farm_rules.after state entry) front made legal.1

-- what one ask came to
record SameAsk (told other : Reply) (new another : State) : Type 0 where
  replies : told ≡ other
  states : new ≡ another

ask_one : Laws → (state : State) (question : Asking) (reply other : Reply) (ticked ticked' : Bool) (made made' : Entry) (new another : State)
    → IsAsk farm_rules state question (record { reply = reply; ticked = ticked }) made new → HasNoDisk made → reply ≢ OutOfMemory
    → IsAsk farm_rules state question (record { reply = other; ticked = ticked' }) made' another → HasNoDisk made' → other ≢ OutOfMemory
    → SameAsk reply other new another
unfolding farm_rules
ask_one laws state question reply other ticked ticked' made made' new another x none plenty y none' plenty' =
    let moment = moment_of state.contents question in
    let ticks : Bool → List Entry = λ b. if b then tick moment ∷ [] else [] in
    let same : ticked ≡ ticked' = due_by state question made ticked x.asked none x.legal ∙ sym (due_by state question made' ticked' y.asked none' y.legal) in
    let at = end_state farm_rules state (ticks ticked) in
    let at' : end_state farm_rules state (ticks ticked') ≡ at = ap (λ b. end_state farm_rules state (ticks b)) (sym same) in
    let first = judged at question reply made (legal_last state (ticks ticked) made x.legal) x.asked x.reply none plenty in
    let second = judged (end_state farm_rules state (ticks ticked')) question other made' (legal_last state (ticks ticked') made' y.legal) y.asked y.reply none' plenty' in
    let judgements : first.judgement ≡ second.judgement = laws.verdict at question first.judgement second.judgement first.verdict (subst (λ s. IsVerdict s question second.judgement) at' second.verdict) in
    let mades : made ≡ made' = first.is ∙ (ap (λ j. call question (finished j)) judgements ∙ sym second.is) in
    record {
      replies = first.told ∙ (ap (λ (j : Judgement). Answered j.answer) judgements ∙ sym second.told);
      states = x.leads ∙ (ap (λ b. end_state farm_rules state (ticks b ++ made ∷ [])) same ∙ (ap (λ e. end_state farm_rules state (ticks ticked' ++ e ∷ [])) mades ∙ sym y.leads));
    }

-- ---- many asks

record SameAsks (told others : List Reply) (new another : State) : Type 0 where
  replies : told ≡ others
  states : new ≡ another

asks_one : Laws → (state : State) (questions : List Asking) (replies others : List Reply) (new another : State) → AreAnswered state questions replies new → AreAnswered state questions others another → SameAsks replies others new another
asks_one laws state [] [] [] new another x y = record { replies = refl; states = x ∙ sym y }
asks_one laws state [] [] (other ∷ others) new another x y = absurd y
asks_one laws state [] (reply ∷ replies) others new another x y = absurd x
asks_one laws state (question ∷ questions) [] others new another x y = absurd x
asks_one laws state (question ∷ questions) (reply ∷ replies) [] new another x y = absurd y
asks_one laws state (question ∷ questions) (reply ∷ replies) (other ∷ others) new another x y =
    let first = ask_one laws state question reply other x.0 y.0 x.1 y.1 x.2 y.2 x.3 x.4 x.5 y.3 y.4 y.5 in
    let rest = asks_one laws x.2 questions replies others new another x.6 (subst (λ s. AreAnswered s questions others another) (sym first.states) y.6) in
    record { replies = ap (λ r. r ∷ replies) first.replies ∙ ap (λ rs. other ∷ rs) rest.replies; states = rest.states }

-- ---- one connection

ask_of_parts : (a b : Ask) → a.message ≡ b.message → a.call ≡ b.call → a.moment ≡ b.moment → a.id ≡ b.id → a ≡ b
ask_of_parts a b m c t i = rw (m, c, t, i) refl

head_same : {A : Type 0} (a b : A) (xs ys : List A) → a ∷ xs ≡ b ∷ ys → a ≡ b
head_same a b xs ys e = cc

tail_same : {A : Type 0} (a b : A) (xs ys : List A) → a ∷ xs ≡ b ∷ ys → xs ≡ ys
tail_same a b xs ys e = cc

sent_one : Laws → (asks others : List Ask) → messages_of asks ≡ messages_of others → AreRouted asks → AreRouted others → AreAtMidnight asks → AreAtMidnight others → asks ≡ others
sent_one laws [] [] same r s t u = refl
sent_one laws [] (other ∷ others) same r s t u = absurd cc
sent_one laws (ask ∷ asks) [] same r s t u = absurd cc
sent_one laws (ask ∷ asks) (other ∷ others) same r s t u =
    let messages = head_same ask.message other.message (messages_of asks) (messages_of others) same in
    let rest = tail_same ask.message other.message (messages_of asks) (messages_of others) same in
    let calls = call_one laws.document laws.routes other.message ask.call other.call (subst (λ (m : Message). IsCallOf m ask.call) messages r.0) s.0 in
    let first = ask_of_parts ask other messages calls (t.0 ∙ sym u.0) (t.1 ∙ sym u.1) in
    ap (λ a. a ∷ asks) first ∙ ap (λ rest. other ∷ rest) (sent_one laws asks others rest r.1 s.1 t.2 u.2)

-- the messages that were sent, with how their list ends
sent_of : (sent : List ℕ) (messages : List Message) → EndsAs REQUESTS sent messages Closed ⊎ EndsAs REQUESTS sent messages Full → (end : Ending) × Messages REQUESTS sent messages end
sent_of sent messages (inl (inl x)) = (closed, x)
sent_of sent messages (inl (inr x)) = (stopped wire.End, x)
sent_of sent messages (inr x) = (full, x)

-- what a connection came to
pub record SameTalk (after another : State) (written other : List ℕ) : Type 0 where
  pub states : after ≡ another
  pub texts : written ≡ other

pub Converses-one : Laws → (before after another : State) (sent written other : List ℕ) → Converses before after sent written → Converses before another sent other → SameTalk after another written other
Converses-one laws before after another sent written other x y =
    let mine = sent_of sent (messages_of x.asks) x.whole in
    let theirs = sent_of sent (messages_of y.asks) y.whole in
    let messages = (laws.messages REQUESTS sent (messages_of x.asks) (messages_of y.asks) mine.0 theirs.0 mine.1 theirs.1).0 in
    let asks = sent_one laws x.asks y.asks messages x.routed y.routed x.timed y.timed in
    let same = asks_one laws before (questions_of y.asks) x.replies y.replies after another (subst (λ (sent : List Ask). AreAnswered before (questions_of sent) x.replies after) asks x.answered) y.answered in
    record {
      states = same.states;
      texts = x.written_is ∙ (ap (λ (sent : List Ask). reply_texts REQUESTS sent x.replies) asks ∙ (ap (reply_texts REQUESTS y.asks) same.replies ∙ sym y.written_is));
    }

-- ---- what a reply tells

run_of_parts : (a b : ClaimedRun) → a.task ≡ b.task → a.number ≡ b.number → a ≡ b
run_of_parts a b t n = rw (t, n) refl

whole_same : (m n : ℕ) → Some (whole (pos m)) ≡ Some (whole (pos n)) → m ≡ n
whole_same m n e = cc

text_same : (s t : List ℕ) → Some (text s) ≡ Some (text t) → s ≡ t
text_same s t e = cc

tells_one : (said : Document) (a b : Option ClaimedRun) → Tells said a → Tells said b → a ≡ b
tells_one said None None x y = refl
tells_one said None (Some run) x y = let e : None ≡ Some y.claim = ap (option_and_then first_item) (sym x) ∙ y.first in absurd cc
tells_one said (Some run) None x y = let e : None ≡ Some x.claim = ap (option_and_then first_item) (sym y) ∙ x.first in absurd cc
tells_one said (Some run) (Some other) x y =
    let claims : x.claim ≡ y.claim = some_is x.claim y.claim (sym x.first ∙ y.first) in
    let numbers = whole_same run.number other.number (sym x.number ∙ (ap (get (codes "runId")) claims ∙ y.number)) in
    let tasks = text_same run.task other.task (sym x.task ∙ (ap (λ (d : Document). option_and_then (get (codes "taskId")) (get (codes "status") d)) claims ∙ y.task)) in
    ap (λ r. Some r) (run_of_parts run other tasks numbers)

pub IsTold-one : Laws → (written : List ℕ) (a b : Option ClaimedRun) → IsTold written a → IsTold written b → a ≡ b
IsTold-one laws written a b x y =
    let bodies : x.body ≡ y.body = IsLastLine-one written x.body y.body x.line y.line in
    let saids : x.said ≡ y.said = laws.document y.body x.said y.said (subst (λ (body : List ℕ). IsJson body (data_of x.said)) bodies x.json) y.json in
    tells_one y.said a b (subst (λ (d : Document). Tells d a) saids x.tells) y.tells

-- ---- the load

created_one : Laws → (counts : List ℕ) (first x : ℕ) (before after another : State) → AreCreated counts first x before after → AreCreated counts first x before another → after ≡ another
created_one laws [] first x before after another a b = a ∙ sym b
created_one laws (count ∷ counts) first x before after another a b =
    let same = Converses-one laws before a.0 b.0 (creations count first x) a.1 b.1 a.2 b.2 in
    created_one laws counts (first + count) (after_draws count x) a.0 after another a.3 (subst (λ s. AreCreated counts (first + count) (after_draws count x) s another) (sym same.states) b.3)

works_one : Laws → (before after another : State) (x : ℕ) (report : List ℕ) → Works before x report after → Works before x report another → after ≡ another
works_one laws before after another x report (ends written talk told) (ends other talk' told') = (Converses-one laws before after another (report ++ claim_text) written other talk talk').states
works_one laws before after another x report (ends written talk told) (goes_on other run between talk' told' rest') =
    let same = Converses-one laws before after between (report ++ claim_text) written other talk talk' in
    let e = IsTold-one laws other None (Some run) (subst (λ (w : List ℕ). IsTold w None) same.texts told) told' in
    absurd cc
works_one laws before after another x report (goes_on written run between talk told rest) (ends other talk' told') =
    let same = Converses-one laws before between another (report ++ claim_text) written other talk talk' in
    let e = IsTold-one laws other (Some run) None (subst (λ (w : List ℕ). IsTold w (Some run)) same.texts told) told' in
    absurd cc
works_one laws before after another x report (goes_on written run between talk told rest) (goes_on other run' between' talk' told' rest') =
    let same = Converses-one laws before between between' (report ++ claim_text) written other talk talk' in
    let runs = some_is run run' (IsTold-one laws other (Some run) (Some run') (subst (λ (w : List ℕ). IsTold w (Some run)) same.texts told) told') in
    works_one laws between after another (next x) (report_text run (drawn (next x))) rest
    (subst₂ (λ (s : State) (r : ClaimedRun). Works s (next x) (report_text r (drawn (next x))) another) (sym same.states) (sym runs) rest')

pub IsBulk-one : Laws → (seed tasks : ℕ) (a b : Summary) → IsBulk seed tasks a → IsBulk seed tasks b → a ≡ b
IsBulk-one laws seed tasks a b x y =
    let made : x.made ≡ y.made = created_one laws (parts_of tasks) 0 (begun seed) (empty_state open_farm) x.made y.made x.created y.created in
    let done : x.done ≡ y.done = works_one laws y.made x.done y.done (after_draws tasks (begun seed)) [] (subst (λ s. Works s (after_draws tasks (begun seed)) [] x.done) made x.worked) y.worked in
    x.summary_is ∙ (ap (λ (s : State). summary_of s.contents.rows) done ∙ sym y.summary_is)
