use Rattle.std.proofs.Common.{◌++◌, ap, ◌∙◌}
use Rattle.json.specs.Print.{print}
use Rattle.serde_json.proofs.Texts.{print-outline}
use Rattle.farm_text.specs.Document.{data_of}
use Rattle.farm_text.specs.Doc.{document}
use Rattle.farm_text.proofs.DocLemmas.{tokens_of, read_tokens}
use Rattle.farm_text.proofs.doc.Doc.write.Goals as goal

pub from_writer-requires : goal.from_writer-requires
from_writer-requires c = c.in_ok-write_value.ensures.before ∙ c.new-out.ensures.before ∙ c.in_ok-with_capacity.ensures.items

pub returns : goal.returns
returns c =
    let d = document c.args.self.now in
    let written = c.in_ok-write_value.ensures.ok ∙ ap (λ ts. ts ++ tokens_of d) c.new-out.ensures.tokens in
    record {
      text = c.from_writer.ensures.text ∙ ap print written ∙ print-outline (data_of d);
      reads_back = λ shallow. (c.from_writer.ensures.utf8, read_tokens d _ (c.from_writer.ensures.reads_back ∙ written) c.in_ok-write_value.ensures.reads_back shallow);
      whole = c.in_ok-write_value.ensures.whole;
    }
