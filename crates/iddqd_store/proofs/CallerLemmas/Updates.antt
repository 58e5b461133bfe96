-- What `update_all` and `retain_mut` make of a bag if the closure's result depends only on the item.
use Rattle.std.specs.Prelude.{◌≡◌, List, [], ◌∷◌, ◌++◌, map, Option, Some, None, IsPermutation}
use Rattle.std.specs.List.{filter_map, cons_option}
use Rattle.std.specs.Option.{option_map, option_to_list}
use Rattle.std.proofs.Common.{refl, sym, ap, subst, ◌∙◌}
use Rattle.std.proofs.lemmas.List.Sorted.{IsPermutation-cons, IsPermutation-map, IsPermutation-refl, IsPermutation-sym, IsPermutation-trans}
use Rattle.iddqd_store.specs.Bag.Storing.{FilterMapsAll, MapsAll, StoresInAll, Writes, RewritesAll, Rewrites}
use Rattle.iddqd_store.proofs.BagLemmas.Exchanges.{IsPermutation-flip, Shuffled, Shuffled-from, done, flip, keep, then}

-- `told`: a call at x returns `answers f x`, and a later call returns what it would have returned before.
module _ {F T D : Type 0} (step : F → T → D → F → Type 0) (put : T → D → T) (answers : F → T → D)
    (told : (f : F) (x : T) (d : D) (g : F) → step f x d g → (d ≡ answers f x) × ((y : T) → answers g y ≡ answers f y)) where
  -- in order, each is written
  pub writes-map : (h : T → D) (f : F) (xs ys : List T) → ((y : T) → answers f y ≡ h y) → Writes step put f xs ys → ys ≡ map (λ x. put x (h x)) xs
  writes-map h f [] ys same writes = writes
  writes-map h f (x ∷ xs) ys same (d, g, rest, called, are, on) =
      let t = told f x d g called in
      are ∙ ap (λ e. put x e ∷ rest) (t.0 ∙ same x) ∙ ap (λ l. put x (h x) ∷ l) (writes-map h g xs rest (λ y. t.1 y ∙ same y) on)

  -- the new bag is the old one, with each item written
  pub stores-map : (f : F) (bag new : List T) → StoresInAll step put f bag new → IsPermutation new (map (λ x. put x (answers f x)) bag)
  stores-map f bag new stores =
      let w = λ (x : T). put x (answers f x) in
      let written : stores.written ≡ map w stores.listed = writes-map (answers f) f stores.listed stores.written (λ y. refl) stores.writes in
      IsPermutation-trans _ _ _ (subst (λ l. IsPermutation new l) written stores.are) (IsPermutation-sym _ _ (IsPermutation-map w _ _ stores.same))

-- the same, where `write` is what the result makes of an item, and no call changes the closure
module _ {F T D : Type 0} (step : F → T → D → F → Type 0) (put : T → D → T) (f : F) where
  written-map : (write : T → T) → ((x : T) (d : D) (g : F) → step f x d g → (g ≡ f) × (write x ≡ put x d)) → (xs ys : List T) → Writes step put f xs ys → ys ≡ map write xs
  written-map write told [] ys writes = writes
  written-map write told (x ∷ xs) ys (d, g, rest, called, are, on) =
      let t = told x d g called in
      are ∙ ap (λ y. y ∷ rest) (sym t.1) ∙ ap (λ l. write x ∷ l) (written-map write told xs rest (subst (λ h. Writes step put h xs rest) t.0 on))

  pub stored-maps : (bag new : List T) → StoresInAll step put f bag new → MapsAll step put f bag new
  stored-maps bag new stores = λ write told.
      (let written : stores.written ≡ map write stores.listed = written-map write told stores.listed stores.written stores.writes in
      IsPermutation-trans _ _ _ (subst (λ l. IsPermutation new l) written stores.are) (IsPermutation-sym _ _ (IsPermutation-map write _ _ stores.same)))

module _ {X Y : Type 0} (h : X → Option Y) where
  onto : (o : Option Y) (xs ys : List Y) → IsPermutation xs ys → IsPermutation (cons_option o xs) (cons_option o ys)
  onto None xs ys p = p
  onto (Some y) xs ys p = IsPermutation-cons y xs ys p

  turned : (o p : Option Y) (l : List Y) → IsPermutation (cons_option o (cons_option p l)) (cons_option p (cons_option o l))
  turned None p l = IsPermutation-refl _
  turned (Some a) None l = IsPermutation-refl _
  turned (Some a) (Some b) l = IsPermutation-flip a b l

  filter_map-Shuffled : {xs ys : List X} → Shuffled xs ys → IsPermutation (filter_map h xs) (filter_map h ys)
  filter_map-Shuffled done = IsPermutation-refl []
  filter_map-Shuffled (keep {x} {xs} {ys} s) = onto (h x) _ _ (filter_map-Shuffled s)
  filter_map-Shuffled (flip x y xs) = turned (h x) (h y) (filter_map h xs)
  filter_map-Shuffled (then s t) = IsPermutation-trans _ _ _ (filter_map-Shuffled s) (filter_map-Shuffled t)

listed_onto : {Y : Type 0} (o : Option Y) (l : List Y) → option_to_list o ++ l ≡ cons_option o l
listed_onto None l = refl
listed_onto (Some y) l = refl

-- `told`: a call at x returns `answers f x`, and a later call returns what it would have returned before.
module _ {F T D : Type 0} (step : F → T → Option D → F → Type 0) (put : T → D → T) (answers : F → T → Option D)
    (told : (f : F) (x : T) (o : Option D) (g : F) → step f x o g → (o ≡ answers f x) × ((y : T) → answers g y ≡ answers f y)) where
  -- in order, each is written or left out
  pub rewrites-filter_map : (h : T → Option D) (f : F) (xs ys : List T) → ((y : T) → answers f y ≡ h y) → Rewrites step put f xs ys → ys ≡ filter_map (λ x. option_map (put x) (h x)) xs
  rewrites-filter_map h f [] ys same is = is
  rewrites-filter_map h f (x ∷ xs) ys same (o, g, rest, called, are, on) =
      let t = told f x o g called in
      let others = rewrites-filter_map h g xs rest (λ y. t.1 y ∙ same y) on in
      are ∙ listed_onto (option_map (put x) o) rest ∙ ap (λ p. cons_option (option_map (put x) p) rest) (t.0 ∙ same x) ∙ ap (λ l. cons_option (option_map (put x) (h x)) l) others

  -- the new bag is the old one, with each item written or left out
  pub rewritten-filter_map : (f : F) (bag new : List T) → RewritesAll step put f bag new → IsPermutation new (filter_map (λ x. option_map (put x) (answers f x)) bag)
  rewritten-filter_map f bag new r =
      let w = λ (x : T). option_map (put x) (answers f x) in
      let left : r.left ≡ filter_map w r.listed = rewrites-filter_map (answers f) f r.listed r.left (λ y. refl) r.rewrites in
      IsPermutation-trans _ _ _ (subst (λ l. IsPermutation new l) left r.are) (IsPermutation-sym _ _ (filter_map-Shuffled w (Shuffled-from bag r.listed r.same)))

-- the same, where `write` is what the result makes of an item, and no call changes the closure
module _ {F T D : Type 0} (step : F → T → Option D → F → Type 0) (put : T → D → T) (f : F) where
  left-filter_map : (write : T → Option T) → ((x : T) (o : Option D) (g : F) → step f x o g → (g ≡ f) × (write x ≡ option_map (put x) o))
      → (xs ys : List T) → Rewrites step put f xs ys → ys ≡ filter_map write xs
  left-filter_map write told [] ys is = is
  left-filter_map write told (x ∷ xs) ys (o, g, rest, called, are, on) =
      let t = told x o g called in
      are ∙ listed_onto (option_map (put x) o) rest ∙ ap (λ p. cons_option p rest) (sym t.1)
      ∙ ap (λ l. cons_option (write x) l) (left-filter_map write told xs rest (subst (λ h. Rewrites step put h xs rest) t.0 on))

  pub rewritten-filter_maps : (bag new : List T) → RewritesAll step put f bag new → FilterMapsAll step put f bag new
  rewritten-filter_maps bag new r = λ write told.
      (let left : r.left ≡ filter_map write r.listed = left-filter_map write told r.listed r.left r.rewrites in
      IsPermutation-trans _ _ _ (subst (λ l. IsPermutation new l) left r.are) (IsPermutation-sym _ _ (filter_map-Shuffled write (Shuffled-from bag r.listed r.same))))
