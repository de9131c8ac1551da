use Rattle.std.proofs.Common.{◌≡◌, ◌∙◌, inl, inr, true, false, [], ◌∷◌, ◌++◌, refl, ap, map, rules, string_bytes}
use Rattle.std.specs.List.{list_any}
use Rattle.std.specs.Str.{bytes_eq}
use Rattle.bw_disk.proofs.Listings.{among_any, none_any, pushed_text}
use Rattle.bw_disk.proofs.memory_volume.add_name.Goals as goal

pub returns-then-has_name : goal.returns-then-has_name
returns-then-has_name c =
    let has : list_any (λ known. bytes_eq (string_bytes known) c.args.name.now) c.args.names.now.items ≡ true = search rules in
    inl (among_any string_bytes c.args.name.now c.args.names.now.items has, refl)

pub returns : goal.returns
returns c =
    let has : list_any (λ known. bytes_eq (string_bytes known) c.args.name.now) c.args.names.now.items ≡ false = search rules in
    let text : string_bytes c.in_ok-name.name ≡ c.args.name.now = search rules in
    let items : c.push.new.self.items ≡ c.args.names.now.items ++ c.in_ok-name.name ∷ [] = search rules in
    inr (
      none_any string_bytes c.args.name.now c.args.names.now.items has,
      ap (λ xs. map string_bytes xs) items
          ∙ pushed_text string_bytes c.args.name.now c.args.names.now.items c.in_ok-name.name text,
    )
