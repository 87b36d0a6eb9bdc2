-- One story more.
use Rattle.std.proofs.Common.{◌≡◌, ℕ, ◌+◌, ◌<◌, List, [], ◌∷◌, ◌++◌, length, map, take, get_or, sym, ap, subst, ◌∙◌}
use Rattle.std.specs.List.{All, flat_map}
use Rattle.std.proofs.lemmas.List.{append-nil, map_more}
use Rattle.std.proofs.lemmas.List.Concat.{flat_map-append}
use Rattle.deneva_base.specs.declared.numbers.TxnId.{TxnId}
use Rattle.server_core.specs.declared.messages.Entry.{Entry}
use Rattle.server_core.proofs.configured.CalvinSettings.{valid}
use Rattle.server_core.proofs.lists.Parts.{home_below as below}
use Rattle.server_core.specs.Roles.{setting_of}
use Rattle.run_outcomes.specs.Stories.{Tells}
use Rattle.server_core.specs.declared.role.Role.{Role}
use Rattle.run_outcomes.specs.declared.stories.Story.{Story}

module _ (ts : List Story) (i : ℕ) (t : Story) (less : i < length ts) (at : t ≡ get_or ts i t) where
  pub story_at : (P : Story → Type 0) → All P ts → P t
  story_at P all = subst P (sym at) (all i t less)

  pub story_more : {A : Type 0} (f : TxnId → List A) (list now : List A) → list ≡ flat_map f (map (λ t. t.id) (take i ts)) → now ≡ list ++ f t.id → now ≡ flat_map f (map (λ t. t.id) (take (i + 1) ts))
  story_more f list now so_far put =
      let ids = map (λ (t : Story). t.id) (take i ts) in
      put ∙ ap (λ l. l ++ f t.id) so_far
      ∙ ap (λ l. flat_map f ids ++ l) (sym (append-nil (f t.id)))
      ∙ sym (flat_map-append f ids (t.id ∷ []))
      ∙ ap (λ (x : Story). flat_map f (ids ++ x.id ∷ [])) at
      ∙ ap (flat_map f) (sym (map_more (λ (t : Story). t.id) ts i t less))

-- each home is one of the nodes
pub home_below : (r : Role) (H : List Entry) (t : Story) → Tells r H t → t.home < r.config.parts
home_below r H t k = subst (λ p. p < r.config.parts) (sym k.home) (below (setting_of r) (valid r.config r.work.now r.valid r.ranges).parts t.id)
