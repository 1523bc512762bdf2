use Rattle.std.proofs.Common.{sym, ap, ◌∙◌, mod-eq_of_lt}
use Rattle.numbers.specs.Roles.{role_number}
use Rattle.numbers.specs.RoleSets.{role_has, role_covers, turned_set}
use Rattle.numbers.specs.SetsLawful.{same_roles}
use Rattle.numbers.specs.declared.role_set.RoleSet.{RoleSet}
use Rattle.numbers.proofs.Turning.{turned_small, turned_members, turned_back, turned_covers}
use Rattle.numbers.proofs.role_set.RoleSet.turned.Goals as goal

pub returns : goal.returns
returns c =
    let value = same_roles _ _ (c.exchanged.ensures ∙ sym (mod-eq_of_lt (turned_small c.args.self.bits c.args.self.small))) in
    record {
      value = value;
      members = λ role. ap (λ (s : RoleSet). role_has s (role_number role)) value ∙ turned_members c.args.self role;
      back = ap turned_set value ∙ turned_back c.args.self;
      inclusion = λ other. ap (λ (s : RoleSet). role_covers s (turned_set other)) value ∙ turned_covers c.args.self other;
    }
