use Rattle.std.proofs.Common.{sym, arith, [], ◌∷◌, length-append}
use Rattle.slotmap_paths.proofs.Routes.{route_back, walk_back, walk_ends, walks_on}
use Rattle.slotmap_paths.proofs.path.path_to.Goals as goal

pub returns-then-len-clause-some : goal.returns-then-len-clause-some
returns-then-len-clause-some g c costs start traced had =
    let more = walks_on _ _ costs start _ _ _ _ (c.loop-reached.invariant.walk costs start _ traced (sym c.in-Some.ensures.value)) c.in-Some-by.edge c.in-Some-by.is in
    absurd (omega (arith, more.0))

pub returns-in_default-step_back-clause-some : goal.returns-in_default-step_back-clause-some
returns-in_default-step_back-clause-some g c costs start traced had =
    let more = walks_on _ _ costs start _ _ _ _ (c.loop-reached.invariant.walk costs start _ traced (sym c.in-Some.ensures.value)) c.in-Some-by.edge c.in-Some-by.is in
    absurd (c.in_default-step_back.ensures.none more.1 more.2 more.3)

pub loop-reached-preserved : goal.loop-reached-preserved
loop-reached-preserved g c =
    let i = c.loop-reached.invariant in
    let back = c.in-Some-step_back.ensures.some in
    rw c.in_ok-push.ensures.items (record {
      route = route_back _ _ c.loop-reached.edges.items c.in-Some-by.edge _ (g.K.Key.data_of c.loop-reached.at) _ back (g.K.Key.data_of c.args.node) i.route;
      few = omega (arith, length-append c.loop-reached.edges.items (c.in-Some-by.edge ∷ []));
      walk = λ costs start far traced is.
          walk_back _ _ c.loop-reached.edges.items c.in-Some-by.edge _ (g.K.Key.data_of c.loop-reached.at) _ back costs start _ _ c.in-Some-by.is (i.walk costs start far traced is);
    })

pub returns-clause-route : goal.returns-clause-route
returns-clause-route g c costs start traced =
    let end = walk_ends _ _ costs start _ _ _ _ (c.loop-reached.invariant.walk costs start _ traced (sym c.in-Some.ensures.value)) c.in_default-by.is in
    rw (← end.0, c.reverse.ensures.items) c.loop-reached.invariant.route

pub returns-clause-cost : goal.returns-clause-cost
returns-clause-cost g c costs start r traced is =
    rw c.reverse.ensures.items (walk_ends _ _ costs start _ _ _ _ (c.loop-reached.invariant.walk costs start r traced is) c.in_default-by.is).1
