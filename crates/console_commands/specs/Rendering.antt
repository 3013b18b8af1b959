-- What `render` does: an input gives a template and its context, and the template's value goes out (JSON-e, "Language Reference").
use Rattle.std.specs.Prelude.{◌≡◌, ◌≢◌, ℕ, ◌<◌, ◌≤◌, ◌⊎◌, List, [], ◌∷◌, ◌++◌, length, codes}
use Rattle.serde_json.specs.Data.{Data}
use Rattle.farm_text.specs.Document.{Document, object, Members, no_members, member, data_of, document_text}
use Rattle.farm_text.specs.Reading.{IsJson, unwhole}
use Rattle.farm_text.specs.declared.reading.ReadFault.{ReadFault}
use Rattle.farm_text.specs.declared.reading.ReadFault.TheVariants as unread
use Rattle.jsone_values.specs.declared.faults.Fault.{Fault}
use Rattle.jsone_render.specs.declared.faults.RenderFault.{RenderFault}
use Rattle.jsone_render.specs.declared.faults.RenderFault.TheVariants as unrendered
use Rattle.jsone_render.specs.Outcomes.{Outcome, given, faulted, too_much}
use Rattle.jsone_render.specs.Templates.{IsRendered}
use Rattle.http_wire.specs.Calls.{LinkState}
use Rattle.console_commands.specs.declared.status.Status.{Status}
use Rattle.console_commands.specs.declared.status.Status.TheVariants.{Input, NoMemory}
use Rattle.console_commands.specs.Inputs.{longest_input, Turns}

-- exactly these two members, and the object of them where the first is a map
abbrev pub request_members : Document → Document → Members
request_members context template = member (codes "context") context (member (codes "template") template no_members)

abbrev pub request_of : Members → Document → Document
request_of context template = object (request_members (object context) template)

-- the input is not too long, and is JSON (RFC 8259) of this document, each number of which is a whole one of 64 bits with a sign
pub record Says (input : List ℕ) (document : Document) : Type 0 where
  pub short : length input ≤ longest_input
  pub json : IsJson input (data_of document)
  pub whole : unwhole (data_of document) ≡ []

-- the template of the input comes to this with its context
pub record ComesTo (input : List ℕ) (outcome : Outcome Document) : Type 0 where
  pub context : Members
  pub template : Document
  pub says : Says input (request_of context template)
  pub renders : IsRendered template (object context) outcome

-- the text is the value of the input's template, as compact JSON, and a line feed
pub record IsRendering (input text : List ℕ) : Type 0 where
  pub value : Document
  pub cost : ℕ
  pub comes : ComesTo input (given value cost)
  pub text_is : text ≡ document_text value ++ codes "\n"

-- the input is JSON, and the number at this pointer (RFC 6901) is not whole, or has more than 64 bits with a sign
pub record HasUnwhole (input path : List ℕ) : Type 0 where
  pub value : Data
  pub json : IsJson input value
  pub more : List (List ℕ)
  pub are : unwhole value ≡ path ∷ more

-- the input is a document, and not that object
pub record SaysOther (input : List ℕ) : Type 0 where
  pub document : Document
  pub says : Says input document
  pub other : (context : Members) (template : Document) → document ≢ request_of context template

-- the template of the input has a fault at a place of it, or costs too much
abbrev pub HasNoValue : List ℕ → Type 0
HasNoValue input = ((rule : Fault) × (path : List ℕ) × ComesTo input (faulted rule path)) ⊎ ComesTo input too_much

-- the input is refused: it is too long, is no JSON that serde_json takes, has a number that is not whole, is another document, or its template has no value
abbrev pub IsUnrendered : List ℕ → Type 0
IsUnrendered input =
    (longest_input < length input)
    ⊎ (((value : Data) → ¬ IsJson input value) ⊎ (((path : List ℕ) × HasUnwhole input path) ⊎ (SaysOther input ⊎ HasNoValue input)))

-- What `render` did with a console, by the status that it ended with: it read all that was to be read and wrote the rendering, or refused what it read.
abbrev pub Renders : LinkState → LinkState → Status → Type 0
Renders before after status = Turns IsRendering IsUnrendered before after status

-- why an input that was read is not rendered; want of memory is free
abbrev pub RenderingRefused : List ℕ → Status → Type 0
RenderingRefused input Input = IsUnrendered input
RenderingRefused input NoMemory = Unit {0}
RenderingRefused input _ = ⊥

-- the status that a refused reading of the input calls for, and that of a template without a value
abbrev pub unread_status : ReadFault → Status
unread_status unread.NotJson = Input
unread_status (unread.NotWhole path) = Input
unread_status unread.NoMemory = NoMemory

abbrev pub unrendered_status : RenderFault → Status
unrendered_status (unrendered.Fault fault) = Input
unrendered_status unrendered.TooMuchWork = Input
unrendered_status unrendered.NoMemory = NoMemory
