-- What a worker reads in the reply to a claim (RFC 9112, section 2.1; RFC 8259; the queue service of the Taskcluster reference).
use Rattle.std.specs.Prelude.{◌≡◌, ℕ, pos, codes, List, ◌∷◌, ◌++◌, Contains, Option, Some, None, option_and_then}
use Rattle.farm_text.specs.Document.{Document, null, boolean, whole, text, array, object, no_items, item, get, data_of}
use Rattle.farm_text.specs.Reading.{IsJson}
use Rattle.load_requests.specs.declared.requests.ClaimedRun.{ClaimedRun}

-- what stands behind the last line feed. Behind the heads of replies that is the body of the last one, for JSON that is written compactly has no line feed.
pub record IsLastLine (text line : List ℕ) : Type 0 where
  pub front : List ℕ
  pub splits : text ≡ front ++ 10 ∷ line
  pub last : ¬ Contains line 10

-- the first of a list of documents
abbrev pub first_item : Document → Option Document
first_item null = None
first_item (boolean b) = None
first_item (whole z) = None
first_item (text s) = None
first_item (array no_items) = None
first_item (array (item d ds)) = Some d
first_item (object ms) = None

-- the body of a claim's reply tells of this run: the first under `tasks`
pub record TellsRun (said : Document) (run : ClaimedRun) : Type 0 where
  pub claim : Document
  pub first : option_and_then first_item (get (codes "tasks") said) ≡ Some claim
  pub number : get (codes "runId") claim ≡ Some (whole (pos run.number))
  pub task : option_and_then (get (codes "taskId")) (get (codes "status") claim) ≡ Some (text run.task)

-- it tells of this run, or that none was claimed
abbrev pub Tells : Document → Option ClaimedRun → Type 0
Tells said None = get (codes "tasks") said ≡ Some (array no_items)
Tells said (Some run) = TellsRun said run

-- the last of some replies is to a claim, of which it tells this
pub record IsTold (written : List ℕ) (claimed : Option ClaimedRun) : Type 0 where
  pub body : List ℕ
  pub line : IsLastLine written body
  pub said : Document
  pub json : IsJson body (data_of said)
  pub tells : Tells said claimed
