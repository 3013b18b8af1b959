use Rattle.std.proofs.Common.{◌++◌, ap, ◌∙◌}
use Rattle.json.specs.Print.{print}
use Rattle.serde_json.proofs.Texts.{print-outline}
use Rattle.farm_text.specs.Document.{data_of}
use Rattle.farm_text.proofs.DocLemmas.{tokens_of, read_tokens}
use Rattle.task_defs.proofs.full_text.full_text_of.Goals as goal

pub from_writer-requires : goal.from_writer-requires
from_writer-requires c = c.in_ok-write_full_text.ensures.before ∙ c.new-out.ensures.before ∙ c.in_ok-with_capacity.ensures.items

pub returns : goal.returns
returns c =
    let (full, form, is) = c.in_ok-write_full_text.ensures.form in
    let written = is.tokens ∙ ap (λ ts. ts ++ tokens_of full) c.new-out.ensures.tokens in
    record {
      full = full;
      form = form;
      spelled = c.from_writer.ensures.text ∙ ap print written ∙ print-outline (data_of full);
      json = λ shallow. (c.from_writer.ensures.utf8, read_tokens full _ (c.from_writer.ensures.reads_back ∙ written) is.reads_back shallow);
      whole = is.whole;
    }
