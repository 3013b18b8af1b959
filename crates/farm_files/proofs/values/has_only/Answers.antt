use Rattle.std.proofs.Common.{◌≡◌, Bool, false, true, sym, ap, ◌∙◌, string_bytes, String, Global}
use Rattle.std.specs.List.{list_all, list_any}
use Rattle.std.specs.Str.{bytes_eq}
use Rattle.farm_files.proofs.ValueLemmas.{has_only-view, keys_more, keys_stop, keys_end}
use Rattle.farm_files.proofs.values.has_only.Goals as goal

pub loop-key-init : goal.loop-key-init
loop-key-init c =
    has_only-view c.args.known.now c.args.table.now.entries
    ∙ ap (list_all (λ key. list_any (λ name. bytes_eq name.now (string_bytes key)) c.args.known.now)) (sym (c.into_iter-key-iterator.ensures.into_iter_gives ∙ c.keys-key-items.ensures.rest))

pub loop-key-preserved : goal.loop-key-preserved
loop-key-preserved c =
    let known : String Global → Bool = λ key. list_any (λ name. bytes_eq name.now (string_bytes key)) c.args.known.now in
    let pass : known c.in-Some.key.now ≡ true = ap (λ key. list_any (λ name. bytes_eq name.now key) c.args.known.now) (sym c.as_str.ensures.value) ∙ sym c.if-not-is_known.ensures in
    keys_more known _ _ _ _ c.loop-key.invariant c.in-Some.ensures.steps pass

pub returns-then-not-is_known : goal.returns-then-not-is_known
returns-then-not-is_known c =
    let known : String Global → Bool = λ key. list_any (λ name. bytes_eq name.now (string_bytes key)) c.args.known.now in
    let fails : known c.in-Some.key.now ≡ false = ap (λ key. list_any (λ name. bytes_eq name.now key) c.args.known.now) (sym c.as_str.ensures.value) ∙ sym c.if-not-is_known.ensures in
    sym (keys_stop known _ _ _ _ c.loop-key.invariant c.in-Some.ensures.steps fails)

pub returns : goal.returns
returns c =
    let known : String Global → Bool = λ key. list_any (λ name. bytes_eq name.now (string_bytes key)) c.args.known.now in
    sym (keys_end known _ _ c.loop-key.invariant c.in-None.ensures.steps.0)
