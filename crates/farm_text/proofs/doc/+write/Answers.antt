use Rattle.std.proofs.Common.{◌≡◌, [], ◌∷◌, ◌++◌, option_and_then, string_bytes, sym, ap, ◌∙◌, subst, append_assoc, arith}
use Rattle.std.proofs.lemmas.Grind.{common_steps}
use Rattle.std.proofs.lemmas.Result.{on_ok_weaker}
use Rattle.std.specs.List.Sorted.{IsStrictlySortedBy}
use Rattle.std.specs.Map.{keys_of}
use Rattle.std.specs.String.{string_cmp}
use Rattle.json.specs.Token.{begin_array, begin_object, key}
use Rattle.serde_json.specs.Data as json
use Rattle.serde_json.specs.Read.{of_members}
use Rattle.serde_json.specs.Written.{members_outline}
use Rattle.farm_text.specs.Document.{members_data}
use Rattle.farm_text.specs.Doc.{document}
use Rattle.farm_text.specs.Reading.{unwhole_members}
use Rattle.farm_text.proofs.DocLemmas.{Entry, tokens_of, item_tokens_of, member_tokens_of, members_in, document-List, document-Map, members_data-put, put_last, MembersWhole-member}
use Rattle.farm_text.proofs.doc.+write.Goals as goal

pub write_value-returns-in_ok-begin_array-in-List-clause-ok : goal.write_value-returns-in_ok-begin_array-in-List-clause-ok
write_value-returns-in_ok-begin_array-in-List-clause-ok t c =
    let seen = ap document c.in-List.is ∙ document-List c.in-List.items in
    let old = c.args.out.now.tokens in
    let opened : c.begin_array.new.self.tokens ≡ old ++ begin_array ∷ [] = grind (arith, common_steps) in
    on_ok_weaker c.write_items.result (λ e. e ∙ ap (λ ts. ts ++ item_tokens_of c.in-List.items.items) opened ∙ append_assoc old (begin_array ∷ []) _ ∙ ap (λ d. old ++ tokens_of d) (sym seen)) c.write_items.ensures.ok

pub write_value-returns-in_ok-begin_object-in-Map-clause-ok : goal.write_value-returns-in_ok-begin_object-in-Map-clause-ok
write_value-returns-in_ok-begin_object-in-Map-clause-ok t c =
    let seen = ap document c.in-Map.is ∙ document-Map c.in-Map.members in
    let old = c.args.out.now.tokens in
    let opened : c.begin_object.new.self.tokens ≡ old ++ begin_object ∷ [] = grind (arith, common_steps) in
    on_ok_weaker c.write_members.result (λ e. e ∙ ap (λ ts. ts ++ member_tokens_of c.in-Map.members.entries) opened ∙ append_assoc old (begin_object ∷ []) _ ∙ ap (λ d. old ++ tokens_of d) (sym seen)) c.write_members.ensures.ok

pub write_members-loop-key-preserved : goal.write_members-loop-key-preserved
write_members-loop-key-preserved t c =
    let l = c.loop-key in
    let (before, so_far, (done, whole, back), fits) = l.invariant in
    let e : Entry = (c.in-Some.key.now, c.in-Some.member.now) in
    let k = string_bytes e.0 in
    let left = c.next.new.self in
    let step : l.key-iterator ≡ e ∷ left = c.in-Some.ensures.steps in
    let all : c.args.members.now.entries ≡ done ++ e ∷ left = whole ∙ ap (λ es. done ++ es) step in
    let last = put_last done e left (subst (λ es. IsStrictlySortedBy string_cmp (keys_of es)) all c.iter-key-items.ensures.ordered) in
    let placed = sym (members_data-put k (document e.1) (members_in done)) ∙ ap members_data last in
    let named : c.key.new.self.tokens ≡ l.out.tokens ++ key k ∷ [] = grind (arith, common_steps) in
    let member : c.write_value.new.out.tokens ≡ c.key.new.self.tokens ++ tokens_of (document e.1) = grind (arith, common_steps) in
    let reads = c.in_ok-write_value.ensures.reads_back in (
      grind (arith, common_steps, before),
      ap (λ ts. ts ++ member_tokens_of left) (member ∙ ap (λ ts. ts ++ tokens_of (document e.1)) named) ∙ append_assoc (l.out.tokens ++ key k ∷ []) (tokens_of (document e.1)) (member_tokens_of left)
          ∙ append_assoc l.out.tokens (key k ∷ []) _ ∙ ap (λ es. l.out.tokens ++ member_tokens_of es) (sym step) ∙ so_far,
      (
        done ++ e ∷ [],
        all ∙ sym (append_assoc done (e ∷ []) left),
        λ rest. back (ap (λ es. of_members (members_outline (members_data (members_in es))) (members_data (members_in done))) step
            ∙ ap (option_and_then (λ d. of_members (members_outline (members_data (members_in left))) (json.put k d (members_data (members_in done))))) reads
            ∙ ap (of_members (members_outline (members_data (members_in left)))) placed ∙ rest),
      ),
      λ rest. fits (ap (λ es. unwhole_members (members_data (members_in es))) step ∙ MembersWhole-member k (document e.1) (members_in left) c.in_ok-write_value.ensures.whole rest),
    )
