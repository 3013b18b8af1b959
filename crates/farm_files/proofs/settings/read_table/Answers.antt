use Rattle.std.proofs.Common.{◌≡◌, ℕ, ℤ, List, Bor, map, false, true, refl, sym, ap, ◌∙◌, subst, rules, to_z, of_z, w64}
use Rattle.std.proofs.lemmas.Int.{ints, to_z-of_z}
use Rattle.std.proofs.lemmas.Bool.{false≢true}
use Rattle.std.proofs.lemmas.Result.{err_from_is_err_and}
use Rattle.toml.specs.View.{table_view}
use Rattle.farm_files.specs.Values.{has_only, IsUpTo, natural}
use Rattle.farm_files.specs.Files.{farm_keys, HasFarmKinds, HasHostForm}
use Rattle.farm_files.specs.Parts.{settings_of}
use Rattle.farm_files.proofs.RuleLemmas.{farm_form, farm_kind, farm_sound, farm_unknown, settings_are}
use Rattle.farm_files.proofs.settings.read_table.Goals as goal

pub returns-then-not-has_only : goal.returns-then-not-has_only
returns-then-not-has_only c =
    let ms = table_view c.args.farm.now in
    let fails : has_only farm_keys ms ≡ false = ap (λ (t : List (Bor (List ℕ))). has_only (map (λ k. k.now) t) ms) (sym c.as_slice.ensures) ∙ sym c.if-not-has_only.ensures in
    farm_unknown ms fails

pub returns-in_err-host : goal.returns-in_err-host
returns-in_err-host c =
    let ms = table_view c.args.farm.now in
    let only : has_only farm_keys ms ≡ true = ap (λ (t : List (Bor (List ℕ))). has_only (map (λ k. k.now) t) ms) (sym c.as_slice.ensures) ∙ sym c.if-not-has_only.ensures in
    let p = err_from_is_err_and c.from_residual.result c.from_residual.ensures.1 in
    rw (p.1, p.2, c.in_err-host.ensures.0) (farm_kind ms only (λ kinds. false≢true (sym c.in_err-host.ensures.1 ∙ kinds.host)))

pub returns-in_err-port : goal.returns-in_err-port
returns-in_err-port c =
    let ms = table_view c.args.farm.now in
    let only : has_only farm_keys ms ≡ true = ap (λ (t : List (Bor (List ℕ))). has_only (map (λ k. k.now) t) ms) (sym c.as_slice.ensures) ∙ sym c.if-not-has_only.ensures in
    let p = err_from_is_err_and c.from_residual-in_err-port.result c.from_residual-in_err-port.ensures.1 in
    rw (p.1, p.2, c.in_err-port.ensures.0) (farm_kind ms only (λ kinds. false≢true (sym c.in_err-port.ensures.1 ∙ kinds.port)))

pub returns-in_err-claim_timeout : goal.returns-in_err-claim_timeout
returns-in_err-claim_timeout c =
    let ms = table_view c.args.farm.now in
    let only : has_only farm_keys ms ≡ true = ap (λ (t : List (Bor (List ℕ))). has_only (map (λ k. k.now) t) ms) (sym c.as_slice.ensures) ∙ sym c.if-not-has_only.ensures in
    let p = err_from_is_err_and c.from_residual-in_err-claim_timeout.result c.from_residual-in_err-claim_timeout.ensures.1 in
    rw (p.1, p.2, c.in_err-claim_timeout.ensures.0) (farm_kind ms only (λ kinds. false≢true (sym c.in_err-claim_timeout.ensures.1 ∙ kinds.claim_timeout)))

pub returns-in_err-max_tasks : goal.returns-in_err-max_tasks
returns-in_err-max_tasks c =
    let ms = table_view c.args.farm.now in
    let only : has_only farm_keys ms ≡ true = ap (λ (t : List (Bor (List ℕ))). has_only (map (λ k. k.now) t) ms) (sym c.as_slice.ensures) ∙ sym c.if-not-has_only.ensures in
    let p = err_from_is_err_and c.from_residual-in_err-max_tasks.result c.from_residual-in_err-max_tasks.ensures.1 in
    rw (p.1, p.2, c.in_err-max_tasks.ensures.0) (farm_kind ms only (λ kinds. false≢true (sym c.in_err-max_tasks.ensures.1 ∙ kinds.max_tasks)))

pub returns-then-not-has_host_form : goal.returns-then-not-has_host_form
returns-then-not-has_host_form c =
    let ms = table_view c.args.farm.now in
    let only : has_only farm_keys ms ≡ true = ap (λ (t : List (Bor (List ℕ))). has_only (map (λ k. k.now) t) ms) (sym c.as_slice.ensures) ∙ sym c.if-not-has_only.ensures in
    let kinds : HasFarmKinds ms = record { host = c.in_ok-host.ensures.0; port = c.in_ok-port.ensures.0; claim_timeout = c.in_ok-claim_timeout.ensures.0; max_tasks = c.in_ok-max_tasks.ensures.0 } in
    farm_form ms only kinds (λ forms. false≢true (c.if-not-has_host_form.ensures.1 (subst (λ (h : List ℕ). HasHostForm 255 h) (sym c.in_ok-host.ensures.1) forms.host)))

pub returns-in_err-up_to : goal.returns-in_err-up_to
returns-in_err-up_to c =
    let ms = table_view c.args.farm.now in
    let only : has_only farm_keys ms ≡ true = ap (λ (t : List (Bor (List ℕ))). has_only (map (λ k. k.now) t) ms) (sym c.as_slice.ensures) ∙ sym c.if-not-has_only.ensures in
    let kinds : HasFarmKinds ms = record { host = c.in_ok-host.ensures.0; port = c.in_ok-port.ensures.0; claim_timeout = c.in_ok-claim_timeout.ensures.0; max_tasks = c.in_ok-max_tasks.ensures.0 } in
    let p = err_from_is_err_and c.from_residual-in_err-up_to.result c.from_residual-in_err-up_to.ensures.1 in
    rw (p.1, p.2, c.in_err-up_to.ensures.0)
    (farm_form ms only kinds (λ forms. c.in_err-up_to.ensures.1 (subst (λ (z : ℤ). IsUpTo 65535 z) (sym (let same : to_z w64 (of_z w64 c.in_ok-port.port) ≡ c.in_ok-port.port = search (rules, ints, to_z-of_z) in same ∙ c.in_ok-port.ensures.1)) forms.port)))

pub returns-in_err-up_to-2 : goal.returns-in_err-up_to-2
returns-in_err-up_to-2 c =
    let ms = table_view c.args.farm.now in
    let only : has_only farm_keys ms ≡ true = ap (λ (t : List (Bor (List ℕ))). has_only (map (λ k. k.now) t) ms) (sym c.as_slice.ensures) ∙ sym c.if-not-has_only.ensures in
    let kinds : HasFarmKinds ms = record { host = c.in_ok-host.ensures.0; port = c.in_ok-port.ensures.0; claim_timeout = c.in_ok-claim_timeout.ensures.0; max_tasks = c.in_ok-max_tasks.ensures.0 } in
    let p = err_from_is_err_and c.from_residual-in_err-up_to-2.result c.from_residual-in_err-up_to-2.ensures.1 in
    rw (p.1, p.2, c.in_err-up_to-2.ensures.0)
    (farm_form ms only kinds (λ forms. c.in_err-up_to-2.ensures.1 (subst (λ (z : ℤ). IsUpTo 86400 z) (sym (let same : to_z w64 (of_z w64 c.in_ok-claim_timeout.claim_timeout) ≡ c.in_ok-claim_timeout.claim_timeout = search (rules, ints, to_z-of_z) in same ∙ c.in_ok-claim_timeout.ensures.1)) forms.claim_timeout)))

pub returns-in_err-up_to-3 : goal.returns-in_err-up_to-3
returns-in_err-up_to-3 c =
    let ms = table_view c.args.farm.now in
    let only : has_only farm_keys ms ≡ true = ap (λ (t : List (Bor (List ℕ))). has_only (map (λ k. k.now) t) ms) (sym c.as_slice.ensures) ∙ sym c.if-not-has_only.ensures in
    let kinds : HasFarmKinds ms = record { host = c.in_ok-host.ensures.0; port = c.in_ok-port.ensures.0; claim_timeout = c.in_ok-claim_timeout.ensures.0; max_tasks = c.in_ok-max_tasks.ensures.0 } in
    let p = err_from_is_err_and c.from_residual-in_err-up_to-3.result c.from_residual-in_err-up_to-3.ensures.1 in
    rw (p.1, p.2, c.in_err-up_to-3.ensures.0)
    (farm_form ms only kinds (λ forms. c.in_err-up_to-3.ensures.1 (subst (λ (z : ℤ). IsUpTo 1000000 z) (sym (let same : to_z w64 (of_z w64 c.in_ok-max_tasks.max_tasks) ≡ c.in_ok-max_tasks.max_tasks = search (rules, ints, to_z-of_z) in same ∙ c.in_ok-max_tasks.ensures.1)) forms.max_tasks)))

pub returns : goal.returns
returns c =
    let ms = table_view c.args.farm.now in
    let only : has_only farm_keys ms ≡ true = ap (λ (t : List (Bor (List ℕ))). has_only (map (λ k. k.now) t) ms) (sym c.as_slice.ensures) ∙ sym c.if-not-has_only.ensures in
    let kinds : HasFarmKinds ms = record { host = c.in_ok-host.ensures.0; port = c.in_ok-port.ensures.0; claim_timeout = c.in_ok-claim_timeout.ensures.0; max_tasks = c.in_ok-max_tasks.ensures.0 } in (
      farm_sound ms only kinds record {
        host = subst (λ (h : List ℕ). HasHostForm 255 h) c.in_ok-host.ensures.1 (c.if-not-has_host_form.ensures.0 refl);
        port = subst (λ (z : ℤ). IsUpTo 65535 z) (let same : to_z w64 (of_z w64 c.in_ok-port.port) ≡ c.in_ok-port.port = search (rules, ints, to_z-of_z) in same ∙ c.in_ok-port.ensures.1) c.in_ok-up_to.ensures.0;
        claim_timeout = subst (λ (z : ℤ). IsUpTo 86400 z) (let same : to_z w64 (of_z w64 c.in_ok-claim_timeout.claim_timeout) ≡ c.in_ok-claim_timeout.claim_timeout = search (rules, ints, to_z-of_z) in same ∙ c.in_ok-claim_timeout.ensures.1) c.in_ok-up_to-2.ensures.0;
        max_tasks = subst (λ (z : ℤ). IsUpTo 1000000 z) (let same : to_z w64 (of_z w64 c.in_ok-max_tasks.max_tasks) ≡ c.in_ok-max_tasks.max_tasks = search (rules, ints, to_z-of_z) in same ∙ c.in_ok-max_tasks.ensures.1) c.in_ok-up_to-3.ensures.0;
      },
      settings_are _ _ _ _ (settings_of ms) (c.in_ok-from_str.ensures ∙ c.in_ok-host.ensures.1) (c.in_ok-up_to.ensures.1 ∙ ap natural (let same : to_z w64 (of_z w64 c.in_ok-port.port) ≡ c.in_ok-port.port = search (rules, ints, to_z-of_z) in same ∙ c.in_ok-port.ensures.1))
          (c.in_ok-up_to-2.ensures.1 ∙ ap natural (let same : to_z w64 (of_z w64 c.in_ok-claim_timeout.claim_timeout) ≡ c.in_ok-claim_timeout.claim_timeout = search (rules, ints, to_z-of_z) in same ∙ c.in_ok-claim_timeout.ensures.1)) (c.in_ok-up_to-3.ensures.1 ∙ ap natural (let same : to_z w64 (of_z w64 c.in_ok-max_tasks.max_tasks) ≡ c.in_ok-max_tasks.max_tasks = search (rules, ints, to_z-of_z) in same ∙ c.in_ok-max_tasks.ensures.1)),
    )
